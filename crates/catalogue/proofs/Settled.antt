-- Each refusal of a catalogue is given or not, whatever the tables, text, settings and buffer hold.
use Prim.Native.Nat.{ℕ, suc, ◌%◌, ◌^◌}
use native.Mathlib.Decide.{ℕ_discrete, dec_le, dec_lt}
use lib.ListN.{length, get_or}
use Rattle.basis.specs.Sum.{sum}
use Rattle.basis.proofs.Decide.{both_or_not, either_or_not, not_or_not, or_not_by, some_or_not}
use Rattle.basis.proofs.Rows.{Settled, settled_each}
use Rattle.constraint.specs.declared.Version.{Version}
use Rattle.constraint.specs.Meaning.{Same}
use Rattle.constraint.proofs.Decided.{readable_or_not}
use Rattle.catalogue.specs.Tables.{Lent, entry_width, entry_count, package_of, version_of, weight_of, slot_width, slot_count, owner_of, start_of, end_of, part_of}
use Rattle.catalogue.specs.Refusals.{rows}

same_or_not : (v w : Version) → Dec (Same v w)
same_or_not v w =
    or_not_by
    (λ x. record { major = x.0; minor = x.1.0; patch = x.1.1 })
    (λ s. (s.major, (s.minor, s.patch)))
    (both_or_not (ℕ_discrete v.major w.major) (both_or_not (ℕ_discrete v.minor w.minor) (ℕ_discrete v.patch w.patch)))

pub rows_settled : (L : Lent) (room : ℕ) → Settled (rows L room)
unfolding rows
rows_settled L room =
    let n : ℕ = entry_count L in
    let m : ℕ = slot_count L in
    let k : ℕ = length L.objectives in
    settled_each (rows L room) (
      either_or_not (not_or_not (ℕ_discrete (length L.entries % entry_width) 0)) (either_or_not (ℕ_discrete (length L.entries) 0) (dec_lt 64 n)),
      (
        some_or_not n (λ e. some_or_not e (λ d. both_or_not (ℕ_discrete (package_of L d) (package_of L e)) (same_or_not (version_of L d) (version_of L e)))),
        (
          either_or_not (not_or_not (ℕ_discrete (length L.slots % slot_width) 0)) (dec_lt 256 m),
          (
            some_or_not m (λ s. dec_le n (owner_of L s)),
            (
              some_or_not m (λ s. both_or_not (dec_lt (suc s) m) (dec_lt (owner_of L (suc s)) (owner_of L s))),
              (
                some_or_not m (λ s. dec_lt (end_of L s) (start_of L s)),
                (
                  some_or_not m (λ s. dec_lt (length L.text) (end_of L s)),
                  (
                    some_or_not m (λ s. not_or_not (readable_or_not (part_of L s))),
                    (
                      dec_le n L.settings.root,
                      (
                        dec_lt 2 L.settings.mode,
                        (
                          dec_lt 1 L.settings.cycles,
                          (
                            either_or_not (ℕ_discrete k 0) (dec_lt 3 k),
                            (
                              some_or_not k (λ i. dec_lt 2 (get_or L.objectives i 0)),
                              (
                                some_or_not k (λ i. some_or_not i (λ j. ℕ_discrete (get_or L.objectives j 0) (get_or L.objectives i 0))),
                                (not_or_not (ℕ_discrete room m), (dec_le (2 ^ 32) (sum (λ e. weight_of L e) n), tt)),
                              ),
                            ),
                          ),
                        ),
                      ),
                    ),
                  ),
                ),
              ),
            ),
          ),
        ),
      ),
    )
