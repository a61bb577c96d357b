-- The names that have been seen, as marks in the text, and how a further name is numbered.
use Rattle.std.specs.Prelude.{◌≡◌, Bool, true, false, List, [], ◌∷◌, ℕ, ◌-◌, ◌≤◌, length, map, take, drop}
use Rattle.std.specs.List.{AllWithin}
use Rattle.csv_text.specs.declared.packages.Mark.{Mark}
use Rattle.csv_text.specs.declared.packages.Names.{Names}
use Rattle.csv_text.specs.Says.{same_name, place}

-- the text between two marks
abbrev pub part : List ℕ → ℕ → ℕ → List ℕ
part text start end = take (end - start) (drop start text)

-- the name that a mark stands for
abbrev pub marked : List ℕ → Mark → List ℕ
marked text mark = part text mark.start mark.end

-- the names that have been seen, in their order
abbrev pub known : List ℕ → Names → List (List ℕ)
known text names = map (marked text) (take names.count names.seen)

-- a mark lies in the text
pub record Lies (text : List ℕ) (mark : Mark) : Type 0 where
  pub order : mark.start ≤ mark.end
  pub within : mark.end ≤ length text

abbrev pub otherwise : Bool → List (List ℕ) → List (List ℕ) → List (List ℕ)
otherwise true names more = names
otherwise false names more = more

-- names with a further one, which stands last unless it is among them
abbrev pub grow : List (List ℕ) → List ℕ → List (List ℕ)
grow [] name = name ∷ []
grow (m ∷ ms) name = m ∷ otherwise (same_name m name) ms (grow ms name)

-- there is room for 320 names, and no more are seen, each of which lies in the text; 16 bits hold each place in it
pub record Room (text : List ℕ) (names : Names) : Type 0 where
  pub size : length names.seen ≡ 320
  pub few : names.count ≤ 320
  pub each : AllWithin (Lies text) names.seen 0 names.count
  pub short : length text ≤ 65535

-- a name's number among those seen, and the names with it
pub record Numbers (text : List ℕ) (names : Names) (name : List ℕ) (r : ℕ) (names' : Names) : Type 0 where
  pub placed : r ≡ place (known text names) name
  pub grown : known text names' ≡ grow (known text names) name
  pub room : Room text names'
