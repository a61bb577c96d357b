-- The three `^` lines of the P table.
use Rattle.constraint.specs.Meaning.{bound, caret}
use Rattle.demands.specs.Claims.{version}
use Rattle.demands.specs.Bench.{CaretLines}
use Rattle.demands.proofs.Readings.{fits_by, misfits_by}

pub caret_lines : CaretLines
caret_lines =
    record {
      zero_zero_three_fits = fits_by _ _ (bound caret (version 0 0 3)) tt tt;
      zero_zero_three_later_patch = misfits_by _ _ (bound caret (version 0 0 3)) tt tt;
      zero_zero_three_later_minor = misfits_by _ _ (bound caret (version 0 0 3)) tt tt;
      zero_two_one_fits = fits_by _ _ (bound caret (version 0 2 1)) tt tt;
      zero_two_one_earlier_patch = misfits_by _ _ (bound caret (version 0 2 1)) tt tt;
      zero_two_one_later_minor = misfits_by _ _ (bound caret (version 0 2 1)) tt tt;
      one_two_three_fits = fits_by _ _ (bound caret (version 1 2 3)) tt tt;
      one_two_three_earlier_patch = misfits_by _ _ (bound caret (version 1 2 3)) tt tt;
      one_two_three_later_major = misfits_by _ _ (bound caret (version 1 2 3)) tt tt;
    }
