-- Names that have been seen: how many there are, the search for a name among them, and a name more.
use mathlib.Core.Path.{◌≡◌, refl, sym, ap, ◌∙◌}
use mathlib.Core.List.{List, [], ◌∷◌, map, map-append}
use Prim.Native.Nat.{ℕ, ◌+◌, ◌≤◌, ◌<◌}
use native.Mathlib.Omega.{arith}
use lib.ListN.{length, get_or, take, set, length-map, length-set}
use lib.Seq.{length-take-le}
use Rattle.std.proofs.Common.{Option}
use Rattle.std.specs.Option.{MatchOption, unwrap_or}
use Rattle.std.specs.List.{AllWithin, HoldsAt}
use Rattle.std.proofs.lemmas.Iterator.{index_from_first}
use Rattle.std.proofs.lemmas.List.{get_or-take, take_more_set}
use Rattle.std.proofs.lemmas.List.Elements.{AllWithin-more_set}
use Rattle.csv_text.specs.declared.packages.Mark.{Mark}
use Rattle.csv_text.specs.declared.packages.Names.{Names}
use Rattle.csv_text.specs.Says.{place}
use Rattle.csv_text.specs.Numbering.{marked, known, Lies, Room, Numbers}
use Rattle.csv_text.proofs.Names.{same_yes, same_not, place_within, grow_known, grow_new}

-- what a search for a name answers
abbrev pub Sought : List ℕ → List Mark → List ℕ → Option ℕ → Type 0
Sought text seen name r =
    MatchOption r (AllWithin (λ m. ¬ (marked text m ≡ name)) seen 0 (length seen))
    (λ i. (i < length seen) × HoldsAt (λ m. marked text m ≡ name) seen i × AllWithin (λ m. ¬ (marked text m ≡ name)) seen 0 i)

place_sought : (text : List ℕ) (seen : List Mark) (name : List ℕ) (r : Option ℕ) → Sought text seen name r → place (map (marked text) seen) name ≡ unwrap_or r (length seen)
place_sought text seen name r s =
    index_from_first {X = Mark} (λ l. place (map (marked text) l) name) (λ m. marked text m ≡ name) (λ m. ¬ (marked text m ≡ name)) refl
    (λ x xs e. rw (sym (same_yes (marked text x) name e)) refl)
    (λ x xs n. rw (sym (same_not (marked text x) name n)) (omega arith))
    seen r s

module _ (text : List ℕ) (names : Names) (room : Room text names) where
  taken : length (take names.count names.seen) ≡ names.count
  taken = length-take-le names.count names.seen (omega (arith, room.size, room.few))

  pub known_length : length (known text names) ≡ names.count
  known_length = length-map (take names.count names.seen) (marked text) ∙ taken

  -- each of them lies in the text
  pub lies_at : (mark : Mark) (k : ℕ) → k < length (take names.count names.seen) → mark ≡ get_or (take names.count names.seen) k mark → Lies text mark
  lies_at mark k h e = rw (e, get_or-take names.count names.seen k mark (omega (arith, taken))) (room.each k mark (omega arith) (omega (arith, taken)))

  -- a name's place is where the search finds it, or behind all
  pub placed : (name : List ℕ) (r : Option ℕ) → Sought text (take names.count names.seen) name r → unwrap_or r names.count ≡ place (known text names) name
  placed name r s = ap (unwrap_or r) (sym taken) ∙ sym (place_sought text (take names.count names.seen) name r s)

  -- a name that is known, and one that is new
  module _ (mark : Mark) {p : ℕ} (e : p ≡ place (known text names) (marked text mark)) where
    pub place_few : p ≤ names.count
    place_few = omega (arith, e, known_length, place_within (known text names) (marked text mark))

    pub number_known : ¬ (p ≡ names.count) → Numbers text names (marked text mark) p names
    number_known n =
        record { placed = e; grown = sym (grow_known (known text names) (marked text mark) (omega (arith, n, place_few, e, known_length))); room = room }

    pub number_new : p ≡ names.count → names.count < 320 → Lies text mark
        → Numbers text names (marked text mark) p (record { seen = set names.seen names.count mark; count = names.count + 1 })
    number_new f h lies =
        record {
          placed = e;
          grown =
              ap (map (marked text)) (take_more_set names.seen names.count mark (omega (arith, room.size, room.few)))
              ∙ map-append (marked text) (take names.count names.seen) (mark ∷ [])
              ∙ sym (grow_new (known text names) (marked text mark) (omega (arith, e, f, known_length)));
          room =
              record {
                size = rw length-set room.size;
                few = omega arith;
                each = AllWithin-more_set names.seen names.count mark (omega (arith, room.size)) (Lies text) room.each lies;
                short = room.short;
              };
        }
