-- A sound plan's table fixes its set, and so a least plan is the only one.
use mathlib.Core.Path.{◌≡◌, sym, ap, ◌∙◌}
use mathlib.Core.List.{List}
use mathlib.Core.Logic.{◌⊎◌, inl, inr}
use Prim.Native.Nat.{ℕ}
use lib.ListN.{get_or}
use Rattle.bitset.proofs.Sets.{same_members}
use Rattle.pacsolve.specs.Problem.{Problem}
use Rattle.pacsolve.specs.Plan.{Plan, none, chosen, MemberOf, Walk, here, on, Sound}
use Rattle.pacsolve.specs.Order.{Precedes}
use Rattle.pacsolve.specs.Listing.{Good, Asked, Least, NoneLeft}
use Rattle.pacsolve.proofs.Order.{precedes_total}

module _ (p : Problem) where
  -- what the root reaches by one plan's table is a member of every sound plan of that table
  reached_by_table : {P Q : Plan} → Sound p Q → P.table ≡ Q.table → {e : ℕ} → Walk p P p.root e → MemberOf Q e
  reached_by_table q t here = q.rooted.root
  reached_by_table {P} {Q} q t (on {e = d} {f = e} w s) =
      let names : chosen Q s.slot ≡ e = ap (λ (u : List ℕ). get_or u s.slot none) (sym t) ∙ s.names in
      let m : MemberOf Q d = reached_by_table q t w in
      rw names at (q.named.filled s.slot s.there (rw s.its m))

  pub table_fixes_set : {P Q : Plan} → Sound p P → Sound p Q → P.table ≡ Q.table → P.set ≡ Q.set
  table_fixes_set {P} {Q} a b t =
      same_members P.set Q.set (λ e m. reached_by_table b t (a.reached e m)) (λ e m. reached_by_table a (sym t) (b.reached e m))

  pub table_fixes_plan : {P Q : Plan} → Sound p P → Sound p Q → P.table ≡ Q.table → P ≡ Q
  table_fixes_plan a b t = let s = table_fixes_set a b t in λ i. record { set = s i; table = t i }

  -- of two good plans one precedes the other, or they are the same
  pub good_total : {P Q : Plan} → Good p P → Good p Q → Precedes p P Q ⊎ ((P ≡ Q) ⊎ Precedes p Q P)
  good_total {P} {Q} a b = go (precedes_total p P Q (a.sized ∙ sym b.sized))
    where
      go : Precedes p P Q ⊎ ((P.table ≡ Q.table) ⊎ Precedes p Q P) → Precedes p P Q ⊎ ((P ≡ Q) ⊎ Precedes p Q P)
      go (inl x) = inl x
      go (inr (inl x)) = inr (inl (table_fixes_plan a.sound b.sound x))
      go (inr (inr x)) = inr (inr x)

  pub least_is_one : {a : Asked} {P Q : Plan} → Least p a P → Least p a Q → P ≡ Q
  least_is_one {a} {P} {Q} x y = go (good_total x.good y.good)
    where
      go : Precedes p P Q ⊎ ((P ≡ Q) ⊎ Precedes p Q P) → P ≡ Q
      go (inl h) = absurd (y.least P x.good x.wanted h)
      go (inr (inl e)) = e
      go (inr (inr h)) = absurd (x.least Q y.good y.wanted h)

  pub least_or_none_left : {a : Asked} {P : Plan} → Least p a P → ¬ NoneLeft p a
  least_or_none_left {a} {P} x n = n P x.good x.wanted
