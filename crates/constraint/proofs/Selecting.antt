-- Reading a whole part: a part is read as a constraint if it begins with its spelling and nothing follows; and what the answer for one packed version
-- says of that version.
use mathlib.Core.Path.{◌≡◌, refl, sym, ap, ◌∙◌}
use mathlib.Core.Bool.{Bool, true, false}
use mathlib.Core.List.{List, [], ◌∷◌, ◌++◌, append-nil}
use mathlib.Core.Logic.{◌↔◌}
use Prim.Native.Nat.{ℕ, ◌<◌}
use native.Mathlib.Omega.{arith}
use lib.ListN.{length, take, drop, take-append-drop}
use lib.Seq.{length-take-le}
use Rattle.std.specs.Prelude.{Option, None, Some, Ok}
use Rattle.basis.specs.Tests.{Decides}
use Rattle.bitset.specs.Bits.{Member}
use Rattle.bitset.proofs.Sets.{same_members}
use Rattle.constraint.specs.declared.Version.{Version}
use Rattle.constraint.specs.Meaning.{Constraint, Satisfies}
use Rattle.constraint.specs.Reader.{Found}
use Rattle.constraint.specs.Reading.{Answers}
use Rattle.constraint.specs.Selection.{key, unkey, Picks, Selects}
use Rattle.constraint.specs.Spelling.{Readable}
use Rattle.constraint.proofs.Packed.{Small, unkey_key}
use Rattle.constraint.proofs.Unique.{spelled_prefix, read_once}

-- a part in which more bytes follow a constraint is read as none
pub unread_more : {Meant : Constraint → Type 0} {part keys : List ℕ} {set used : ℕ} → Found Meant part keys set used → used < length part → ¬ Readable part
unread_more {part = part} {used = used} f h r =
    let whole : take used part ++ drop used part ≡ part ++ [] = take-append-drop used part ∙ sym (append-nil part) in
    let same : take used part ≡ part = (spelled_prefix f.what r.0 f.spelled.holds r.1.spelled whole).1 in
    omega (arith, sym (length-take-le used part f.spelled.within) ∙ ap length same)

-- a part and its keys have one answer
pub selection_one : (part keys : List ℕ) (a b : Option ℕ) → Selects part keys a → Selects part keys b → a ≡ b
selection_one part keys (Some s) (Some t) (c, r, p) (d, r', q) =
    let one : c ≡ d = read_once r r' in
    let also : Picks keys c t = rw one q in
    let same : s ≡ t = same_members s t (λ x m. (also x).1 ((p x).0 m)) (λ x m. (p x).1 ((also x).0 m)) in
    cc
selection_one part keys (Some s) None (c, r, p) n = absurd (n (c, r))
selection_one part keys None (Some t) n (d, r, q) = absurd (n (d, r))
selection_one part keys None None n m = refl

-- of one version, its bit says whether it satisfies the constraint
picked_one : (v : Version) (c : Constraint) (set k : ℕ) → Small v → k ≡ key v → Picks (k ∷ []) c set → Member set 0 ↔ Satisfies v c
picked_one v c set k s e p =
    let same : unkey k ≡ v = ap unkey e ∙ unkey_key v s in
    (λ m. rw same at ((p 0).0 m).1, λ h. (p 0).1 (omega arith, rw same h))

-- so that bit is the answer
pub answers_by : {part : List ℕ} {v : Version} {k : ℕ} (set : ℕ) {b : Bool} → Small v → k ≡ key v → Selects part (k ∷ []) (Some set) → Decides b (Member set 0)
    → Answers part v (Ok b)
answers_by {v = v} {k = k} set {b = true} s e (c, r, p) d = Answers.fits r ((picked_one v c set k s e p).0 (d.sure tt)) refl
answers_by {v = v} {k = k} set {b = false} s e (c, r, p) d = Answers.misfits r (λ h. d.full ((picked_one v c set k s e p).1 h)) refl
