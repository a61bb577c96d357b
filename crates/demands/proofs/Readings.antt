-- Readings by computation. A constraint's own spelling is made from its numbers, so a test tells that a part is read as it, and another whether a version fits.
use mathlib.Core.Bool.{Bool, true, false, not}
use mathlib.Core.List.{List, [], ◌∷◌, ◌++◌}
use mathlib.Core.Path.{◌≡◌, refl}
use Prim.Native.Nat.{ℕ, zero, suc, ◌+◌, ◌/◌, ◌%◌, ◌≤◌}
use lib.Dec.{T, ltb, T_not}
use lib.ListN.{length, get_or}
use Rattle.std.specs.Prelude.{Ok}
use Rattle.basis.specs.Bytes.{bytes}
use Rattle.basis.proofs.Decide.{decides_by, decides_unit, decides_and, decides_or, decides_not, decides_eq, decides_lt, decides_le}
use Rattle.constraint.specs.declared.Version.{Version}
use Rattle.constraint.specs.Meaning.{Constraint, any, bound, both, either, depth}
use Rattle.constraint.specs.Numeral.{Digit, value, Numeral}
use Rattle.constraint.specs.Spelling.{sign, Spells, ReadAs}
use Rattle.constraint.specs.Reading.{Answers, fits, misfits}
use Rattle.constraint.proofs.Tests.{satisfied, satisfied_decides}
use Rattle.demands.proofs.Tested.{Test, all_tested, same_tested}

abbrev digit_tested : (b : ℕ) → Test (Digit b)
digit_tested b = (_, decides_and (decides_le 48 b) (decides_le b 57))

-- whether bytes write a number
abbrev pub numeral_tested : (bs : List ℕ) (n : ℕ) → Test (Numeral bs n)
numeral_tested bs n = (
  _,
  decides_by
      (λ p. record { digits = p.0; filled = p.1.0; plain = p.1.1.0; worth = p.1.1.1.0; small = p.1.1.1.1 })
      (λ r. (r.digits, (r.filled, (r.plain, (r.worth, r.small)))))
      (decides_and (all_tested Digit digit_tested bs).1
      (decides_and (decides_lt 0 (length bs))
      (decides_and (decides_or (decides_eq (length bs) 1) (decides_not (decides_eq (get_or bs 0 0) 48)))
      (decides_and (decides_eq (value bs) n) (decides_le n 65535))))),
)

-- the bytes of a number's digits, at most k of them
abbrev digits : ℕ → ℕ → List ℕ
digits zero n = []
digits (suc k) n = elim (ltb n 10) [ true ↦ (48 + n) ∷ [] | false ↦ digits k (n / 10) ++ ((48 + n % 10) ∷ []) ]

-- no number of a constraint has more than five
abbrev decimal : ℕ → List ℕ
decimal n = digits 5 n

abbrev spelling : Constraint → List ℕ
spelling any = bytes "*"
spelling (bound o b) =
    bytes "("
    ++ (sign o ++ (bytes " " ++ (decimal b.major ++ (bytes " " ++ (decimal b.minor ++ (bytes " " ++ (decimal b.patch ++ bytes ")")))))))
spelling (both c d) = bytes "(" ++ (bytes "and" ++ (bytes " " ++ (spelling c ++ (bytes " " ++ (spelling d ++ bytes ")")))))
spelling (either c d) = bytes "(" ++ (bytes "or" ++ (bytes " " ++ (spelling c ++ (bytes " " ++ (spelling d ++ bytes ")")))))

-- a constraint's numbers are written by their digits, which is so of those that are not too large
abbrev Written : Constraint → Type 0
Written any = Unit {0}
Written (bound o b) = Numeral (decimal b.major) b.major × (Numeral (decimal b.minor) b.minor × Numeral (decimal b.patch) b.patch)
Written (both c d) = Written c × Written d
Written (either c d) = Written c × Written d

abbrev written_tested : (c : Constraint) → Test (Written c)
written_tested any = (true, decides_unit)
written_tested (bound o b) = (
  _,
  decides_and (numeral_tested (decimal b.major) b.major).1
      (decides_and (numeral_tested (decimal b.minor) b.minor).1 (numeral_tested (decimal b.patch) b.patch).1),
)
written_tested (both c d) = (_, decides_and (written_tested c).1 (written_tested d).1)
written_tested (either c d) = (_, decides_and (written_tested c).1 (written_tested d).1)

spelled : (c : Constraint) → Written c → Spells c (spelling c)
spelled any w = refl
spelled (bound o b) w =
    record {
      x = decimal b.major;
      y = decimal b.minor;
      z = decimal b.patch;
      major = w.0;
      minor = w.1.0;
      patch = w.1.1;
      whole = refl;
    }
spelled (both c d) w = record { l = spelling c; r = spelling d; left = spelled c w.0; right = spelled d w.1; whole = refl }
spelled (either c d) w = record { l = spelling c; r = spelling d; left = spelled c w.0; right = spelled d w.1; whole = refl }

-- a part is a constraint's own spelling, within the limits
abbrev Own : List ℕ → Constraint → Type 0
Own part c = (part ≡ spelling c) × (Written c × ((depth c ≤ 16) × (length part ≤ 255)))

abbrev own_tested : (part : List ℕ) (c : Constraint) → Test (Own part c)
own_tested part c = (
  _,
  decides_and (same_tested part (spelling c)).1
      (decides_and (written_tested c).1 (decides_and (decides_le (depth c) 16) (decides_le (length part) 255))),
)

-- a part is read as a constraint, by a test that passes only where it is
abbrev pub reads? : List ℕ → Constraint → Bool
reads? part c = (own_tested part c).0

pub reads : (part : List ℕ) (c : Constraint) → T (reads? part c) → ReadAs part c
reads part c t =
    let own = (own_tested part c).1.sure t in
    record { spelled = rw own.0 (spelled c own.1.0); shallow = own.1.1.0; short = own.1.1.1 }

pub fits_by : (part : List ℕ) (v : Version) (c : Constraint) → T (reads? part c) → T (satisfied v c) → Answers part v (Ok true)
fits_by part v c r s = fits (reads part c r) ((satisfied_decides v c).sure s) refl

pub misfits_by : (part : List ℕ) (v : Version) (c : Constraint) → T (reads? part c) → T (not (satisfied v c)) → Answers part v (Ok false)
misfits_by part v c r s = misfits (reads part c r) (λ x. T_not (satisfied v c) s ((satisfied_decides v c).full x)) refl
