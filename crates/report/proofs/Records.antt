-- The records of members: how long they are, where their fields stand in the text, and what a line more adds.
use mathlib.Core.Path.{◌≡◌, refl, sym, ap, ◌∙◌}
use mathlib.Core.Bool.{Bool, true, false}
use mathlib.Core.List.{List, [], ◌∷◌, ◌++◌, append_assoc, append-nil}
use mathlib.Core.Logic.{◌⊎◌, inl, inr}
use Prim.Native.Nat.{ℕ, suc, ◌+◌, ◌-◌, ◌*◌, ◌/◌, ◌%◌, ◌≤◌, ◌<◌}
use native.Mathlib.Nat.{add-zero, le_trans}
use native.Mathlib.Omega.{arith}
use lib.Dec.{T, eqb, ltb, lt→ltb, ltb→lt}
use lib.ListN.{length, take, drop, length-append, take-append-drop}
use lib.Seq.{take_at, drop_at, length-take-le}
use Rattle.basis.specs.Bytes.{All}
use Rattle.basis.proofs.Runs.{run_stops, all_append, all_weaken}
use Rattle.bitset.specs.Bits.{bit}
use Rattle.constraint.specs.Numeral.{Digit, value_from}
use Rattle.csv_text.specs.declared.line.EntryParts.{EntryParts}
use Rattle.csv_text.specs.Layout.{crlf, Line, entry, slot, written, Number, FieldByte, EntryLine, LineOk}
use Rattle.csv_text.specs.Says.{entry_count}
use Rattle.csv_text.specs.Reader.{Run, EntryFound}
use Rattle.csv_text.proofs.Fields.{stops_there}
use Rattle.csv_text.proofs.Walks.{◌then◌}
use Rattle.report.specs.Output.{one_or_two, decimal, record_of, present, members_from}

-- a number as written has at most five digits
grows : (a : ℕ) (xs : List ℕ) → a ≤ value_from a xs
grows a [] = omega arith
grows a (x ∷ xs) = omega (arith, grows (a * 10 + (x - 48)) xs)

six_digits : (a b c d e f : ℕ) (xs : List ℕ) → 1 ≤ a → 100000 ≤ value_from (((((a * 10 + b) * 10 + c) * 10 + d) * 10 + e) * 10 + f) xs
six_digits a b c d e f xs h = omega (arith, grows (((((a * 10 + b) * 10 + c) * 10 + d) * 10 + e) * 10 + f) xs)

pub number_short : (x : List ℕ) → Number x → length x ≤ 5
number_short [] n = omega arith
number_short (a ∷ []) n = omega arith
number_short (a ∷ b ∷ []) n = omega arith
number_short (a ∷ b ∷ c ∷ []) n = omega arith
number_short (a ∷ b ∷ c ∷ d ∷ []) n = omega arith
number_short (a ∷ b ∷ c ∷ d ∷ e ∷ []) n = omega arith
number_short (a ∷ b ∷ c ∷ d ∷ e ∷ f ∷ x) n = absurd (go n.plain)
  where
    go : (length (a ∷ b ∷ c ∷ d ∷ e ∷ f ∷ x) ≡ 1) ⊎ (¬ (a ≡ 48)) → ⊥
    go (inl h) = omega arith
    go (inr h) =
        let some : 1 ≤ 0 * 10 + (a - 48) = omega (arith, h, n.digits.0.0) in
        let large : 100000 ≤ 65535 = le_trans (six_digits (0 * 10 + (a - 48)) (b - 48) (c - 48) (d - 48) (e - 48) (f - 48) x some) n.small in
        omega (arith, large)

-- a number below 10 is one digit
pub one_digit : (n : ℕ) → n < 10 → decimal n ≡ (48 + n) ∷ []
one_digit n h = go (ltb n 10) (lt→ltb n 10 h)
  where
    go : (b : Bool) → T b → one_or_two b n ≡ (48 + n) ∷ []
    go true t = refl
    go false t = absurd t

-- and from 10 on two
pub two_digits : (n : ℕ) → 10 ≤ n → decimal n ≡ (48 + n / 10) ∷ (48 + n % 10) ∷ []
two_digits n h = go (ltb n 10) (ltb→lt n 10)
  where
    go : (b : Bool) → (T b → n < 10) → one_or_two b n ≡ (48 + n / 10) ∷ (48 + n % 10) ∷ []
    go true t = absurd (omega (arith, t tt))
    go false t = refl

pub record_short : (number : ℕ) (name x y z weight : List ℕ) → number < 10 → EntryLine name x y z weight → length (record_of number name x y z) ≤ 54
record_short number name x y z weight h ok =
    rw (one_digit number h) (simp length-append
    (omega (arith, ok.named.short, number_short x ok.major, number_short y ok.minor, number_short z ok.patch)))

pub present_short : (b : Bool) (bs : List ℕ) (n : ℕ) → length bs ≤ n → length (present b bs) ≤ n
present_short true bs n h = h
present_short false bs n h = omega arith

pub members_short : (number set declared : ℕ) (lines : List Line) → number < 10 → All LineOk lines → length (members_from number set declared lines) ≤ 54 * entry_count lines
members_short number set declared [] h ok = omega arith
members_short number set declared (entry name x y z weight ∷ lines) h ok =
    let one = present_short (eqb (bit set declared) 1) (record_of number name x y z) 54 (record_short number name x y z weight h ok.0) in
    omega (
      arith,
      one,
      members_short number set (suc declared) lines h ok.1,
      length-append (present (eqb (bit set declared) 1) (record_of number name x y z)) (members_from number set (suc declared) lines),
    )
members_short number set declared (slot name constraint ∷ lines) h ok = members_short number set declared lines h ok.1

-- a line more
pub members_entry : (number set declared : ℕ) (done : List Line) (name x y z weight : List ℕ)
    → members_from number set declared (done then entry name x y z weight)
    ≡ members_from number set declared done ++ present (eqb (bit set (declared + entry_count done)) 1) (record_of number name x y z)
members_entry number set declared [] name x y z weight =
    let d : declared + 0 ≡ declared = add-zero declared in rw (d, append-nil) refl
members_entry number set declared (entry n a b c w ∷ done) name x y z weight =
    let d : declared + suc (entry_count done) ≡ suc declared + entry_count done = omega arith in
    rw d (ap (λ (l : List ℕ). present (eqb (bit set declared) 1) (record_of number n a b c) ++ l) (members_entry number set (suc declared) done name x y z weight)
    ∙ sym (append_assoc (present (eqb (bit set declared) 1) (record_of number n a b c)) (members_from number set (suc declared) done) _))
members_entry number set declared (slot n c ∷ done) name x y z weight = members_entry number set declared done name x y z weight

pub members_slot : (number set declared : ℕ) (done : List Line) (name constraint : List ℕ)
    → members_from number set declared (done then slot name constraint) ≡ members_from number set declared done
members_slot number set declared [] name constraint = refl
members_slot number set declared (entry n a b c w ∷ done) name constraint =
    ap (λ (l : List ℕ). present (eqb (bit set declared) 1) (record_of number n a b c) ++ l) (members_slot number set (suc declared) done name constraint)
members_slot number set declared (slot n c ∷ done) name constraint = members_slot number set declared done name constraint

-- digits and dots are bytes of a field, and a comma is none
digit_field : (b : ℕ) → Digit b → FieldByte b
digit_field b d =
    record { no_comma = λ e. omega (arith, e, d.0); no_quote = λ e. omega (arith, e, d.0); no_cr = λ e. omega (arith, e, d.0); no_lf = λ e. omega (arith, e, d.0) }

dot_field : FieldByte 46
dot_field = record { no_comma = λ e. omega (arith, e); no_quote = λ e. omega (arith, e); no_cr = λ e. omega (arith, e); no_lf = λ e. omega (arith, e) }

number_plain : (x : List ℕ) → Number x → All FieldByte x
number_plain x n = all_weaken Digit FieldByte digit_field x n.digits

-- a version field
abbrev version_of : (x y z : List ℕ) → List ℕ
version_of x y z = x ++ (46 ∷ (y ++ (46 ∷ z)))

version_plain : (x y z : List ℕ) → Number x → Number y → Number z → All FieldByte (version_of x y z)
version_plain x y z p q r =
    all_append FieldByte x _ (number_plain x p) (dot_field, all_append FieldByte y _ (number_plain y q) (dot_field, number_plain z r))

-- where the fields of an entry's line stand
entry_split : (name x y z weight rest : List ℕ)
    → written (entry name x y z weight) ++ rest ≡ (name ++ (44 ∷ [])) ++ (version_of x y z ++ (44 ∷ (weight ++ (44 ∷ 44 ∷ rest))))
entry_split name x y z weight rest = simp append_assoc

module _ (text : List ℕ) {e : EntryParts} (f : EntryFound text e) where
  abbrev version : List ℕ
  version = version_of f.x f.y f.z

  abbrev behind_version : List ℕ
  behind_version = 44 ∷ (f.weight ++ (44 ∷ 44 ∷ f.rest))

  line_split : text ≡ (f.name ++ (44 ∷ [])) ++ (version ++ behind_version)
  line_split = f.whole ∙ entry_split f.name f.x f.y f.z f.weight f.rest

  name_end : length (f.name ++ (44 ∷ [])) ≡ e.name + 1
  name_end = length-append f.name (44 ∷ []) ∙ omega (arith, f.of_name)

  at_version : drop (e.name + 1) text ≡ version ++ behind_version
  at_version = ap (λ (t : List ℕ). drop (e.name + 1) t) line_split ∙ drop_at (f.name ++ (44 ∷ [])) (version ++ behind_version) (e.name + 1) name_end

  pub version_within : e.name + 1 ≤ length text
  version_within = omega (arith, ap length line_split ∙ length-append (f.name ++ (44 ∷ [])) (version ++ behind_version), name_end)

  module _ {k : ℕ} (run : Run FieldByte (drop (e.name + 1) text) k) where
    field_is : take k (drop (e.name + 1) text) ≡ version
    field_is =
        (run_stops FieldByte (take k (drop (e.name + 1) text)) version (drop k (drop (e.name + 1) text)) behind_version run.each
        (version_plain f.x f.y f.z f.ok.major f.ok.minor f.ok.patch) (stops_there (drop (e.name + 1) text) k run)
        (λ b. b.no_comma refl) (take-append-drop k (drop (e.name + 1) text) ∙ at_version)).0

    version_size : length version ≡ k
    version_size = sym (ap length field_is) ∙ length-take-le k (drop (e.name + 1) text) run.within

    -- the package and version fields, with the comma between them
    fields_front : take (e.name + 1 + k) text ≡ (f.name ++ (44 ∷ [])) ++ version
    fields_front =
        ap (λ (t : List ℕ). take (e.name + 1 + k) t) (line_split ∙ sym (append_assoc (f.name ++ (44 ∷ [])) version behind_version))
        ∙ take_at ((f.name ++ (44 ∷ [])) ++ version) behind_version (e.name + 1 + k)
        (length-append (f.name ++ (44 ∷ [])) version ∙ omega (arith, name_end, version_size))

    pub fields_short : length (take (e.name + 1 + k) text) ≤ 50
    fields_short =
        omega (
          arith,
          ap length fields_front ∙ length-append (f.name ++ (44 ∷ [])) version,
          name_end,
          f.of_name,
          f.ok.named.short,
          length-append f.x (46 ∷ (f.y ++ (46 ∷ f.z))),
          length-append f.y (46 ∷ f.z),
          number_short f.x f.ok.major,
          number_short f.y f.ok.minor,
          number_short f.z f.ok.patch,
        )

    -- a record is the plan's number, a comma and those fields
    pub record_spelled : (number : ℕ) → number < 10
        → record_of number f.name f.x f.y f.z ≡ (48 + number) ∷ 44 ∷ (take (e.name + 1 + k) text ++ crlf)
    record_spelled number h = rw (one_digit number h, fields_front) (simp append_assoc)
