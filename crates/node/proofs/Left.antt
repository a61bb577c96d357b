-- A node that is left after a step: what is promised of whichever node is left, and what holds of the one that is.
use mathlib.Core.Path.{◌≡◌, refl, subst, ◌∙◌}
use mathlib.Core.List.{List}
use Rattle.std.specs.Prelude.{Option, Some}
use Prim.Native.Nat.{ℕ}
use Rattle.node.specs.declared.Node.{Node}
use Rattle.node.specs.Steps.{NoneGained, Fewer}

pub gained_none : {choices : List ℕ} → NoneGained choices choices
gained_none = record { fewer = λ s e m. m; sized = refl }

pub gained_then : {x y z : List ℕ} → NoneGained x y → NoneGained y z → NoneGained x z
gained_then f g = record { fewer = λ s e m. f.fewer s e (g.fewer s e m); sized = g.sized ∙ f.sized }

pub fewer_then : {a b c : ℕ} {x y z : List ℕ} → Fewer a x b y → Fewer b y c z → Fewer a x c z
fewer_then f g =
    record { more = λ e m. g.more e (f.more e m); fewer = λ s e m. f.fewer s e (g.fewer s e m); sized = g.sized ∙ f.sized }

pub same_left : {a b : Node} → ◌≡◌ {A = Option Node} (Some a) (Some b) → a ≡ b
same_left e = cc

pub at_left : (Q : Node → Type 0) {a : Node} → (n : Node) × ◌≡◌ {A = Option Node} (Some a) (Some n) × Q n → Q a
at_left Q {a} x = let same : x.0 ≡ a = cc in subst Q same x.2

pub fewer_left : {must : ℕ} {a : Node} {choices left : List ℕ} → Fewer must choices a.must left → (n : Node) → ◌≡◌ {A = Option Node} (Some a) (Some n)
    → Fewer must choices n.must left
fewer_left {must} {a} {choices} {left} f n e = subst (λ (x : Node). Fewer must choices x.must left) (same_left e) f
