-- The slots that have been looked at for a pick: an open one leads, or there is nothing to do at any of them.
use mathlib.Core.Path.{◌≡◌}
use mathlib.Core.List.{List}
use mathlib.Core.Logic.{inl, inr}
use Prim.Native.Nat.{ℕ, ◌+◌, ◌<◌}
use borrow.Author.Count.{below_more}
use lib.ListN.{get_or}
use Rattle.std.specs.Prelude.{Option, Some, None, MatchOption}
use Rattle.catalogue.specs.Spans.{owner_in}
use Rattle.search.specs.declared.Pick.TheVariants.{Split}
use Rattle.search.specs.declared.rank.Lead.{Lead}
use Rattle.search.specs.Ranking.{Leads}
use Rattle.search.specs.Picks.{Picked}
use Rattle.search.proofs.Slots.{Quiet}

abbrev pub Led : List ℕ → ℕ → List ℕ → Option Lead → ℕ → Type 0
Led slots must choices best s =
    MatchOption best ((k : ℕ) → k < s → Quiet must (owner_in slots k) (get_or choices k 0)) (λ lead. Picked slots must choices (Split lead.slot))

module _ (slots : List ℕ) (must : ℕ) (choices : List ℕ) (s : ℕ) where
  pub led_quiet : (best : Option Lead) → Led slots must choices best s → Quiet must (owner_in slots s) (get_or choices s 0) → Led slots must choices best (s + 1)
  led_quiet None all q = below_more _ _ all q
  led_quiet (Some lead) p q = p

  pub led_open : (best : Option Lead) (next r : Lead) → Led slots must choices best s → Picked slots must choices (Split next.slot) → Leads best next r
      → Led slots must choices (Some r) (s + 1)
  led_open best next r led p (inl e) = rw e p
  led_open None next r led p (inr e) = cc
  led_open (Some lead) next r led p (inr e) = let its : lead ≡ r = cc in rw (← its) led
