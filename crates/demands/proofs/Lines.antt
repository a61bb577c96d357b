-- Lines of a catalogue's text by computation: whether a line's fields are as the layout asks.
use mathlib.Core.List.{List}
use Prim.Native.Nat.{ℕ}
use lib.ListN.{length}
use Rattle.basis.proofs.Decide.{decides_by, decides_and, decides_or, decides_not, decides_eq, decides_le}
use Rattle.constraint.specs.Numeral.{value}
use Rattle.csv_text.specs.Layout.{Line, entry, slot, NameByte, Name, FieldByte, LineOk}
use Rattle.demands.proofs.Tested.{Test, all_tested}
use Rattle.demands.proofs.Readings.{numeral_tested}

abbrev name_byte_tested : (b : ℕ) → Test (NameByte b)
name_byte_tested b =
    (_, decides_or (decides_and (decides_le 97 b) (decides_le b 122)) (decides_or (decides_and (decides_le 48 b) (decides_le b 57)) (decides_eq b 45)))

abbrev name_tested : (bs : List ℕ) → Test (Name bs)
name_tested bs = (
  _,
  decides_by
      (λ p. record { filled = p.0; short = p.1.0; plain = p.1.1 })
      (λ n. (n.filled, (n.short, n.plain)))
      (decides_and (decides_le 1 (length bs)) (decides_and (decides_le (length bs) 32) (all_tested NameByte name_byte_tested bs).1)),
)

abbrev field_byte_tested : (b : ℕ) → Test (FieldByte b)
field_byte_tested b = (
  _,
  decides_by
      (λ p. record { no_comma = p.0; no_quote = p.1.0; no_cr = p.1.1.0; no_lf = p.1.1.1 })
      (λ f. (f.no_comma, (f.no_quote, (f.no_cr, f.no_lf))))
      (decides_and (decides_not (decides_eq b 44))
      (decides_and (decides_not (decides_eq b 34)) (decides_and (decides_not (decides_eq b 13)) (decides_not (decides_eq b 10))))),
)

abbrev pub line_tested : (line : Line) → Test (LineOk line)
line_tested (entry name x y z weight) = (
  _,
  decides_by
      (λ p. record { named = p.0; major = p.1.0; minor = p.1.1.0; patch = p.1.1.1.0; weighed = p.1.1.1.1 })
      (λ l. (l.named, (l.major, (l.minor, (l.patch, l.weighed)))))
      (decides_and (name_tested name).1
      (decides_and (numeral_tested x (value x)).1
      (decides_and (numeral_tested y (value y)).1 (decides_and (numeral_tested z (value z)).1 (numeral_tested weight (value weight)).1)))),
)
line_tested (slot name constraint) = (
  _,
  decides_by
      (λ p. record { named = p.0; filled = p.1.0; plain = p.1.1 })
      (λ l. (l.named, (l.filled, l.plain)))
      (decides_and (name_tested name).1 (decides_and (decides_le 1 (length constraint)) (all_tested FieldByte field_byte_tested constraint).1)),
)
