-- A search of a node that all plans asked for are inside of, below a bound, gives the least of them, or says that none is below the bound. The node of the root alone is
-- such a node, and narrowing it leaves one.
use mathlib.Core.Path.{◌≡◌, refl}
use mathlib.Core.List.{List}
use mathlib.Core.Logic.{◌⊎◌, inl, inr}
use Prim.Native.Nat.{ℕ, ◌<◌}
use native.Mathlib.Omega.{arith}
use lib.ListN.{get_or}
use Rattle.std.specs.Prelude.{Option, Some, None}
use Rattle.bitset.specs.Bits.{Member}
use Rattle.bitset.specs.Changes.{With}
use Rattle.bitset.proofs.Sets.{none_in_empty}
use Rattle.pacsolve.specs.declared.Cost.{Cost}
use Rattle.pacsolve.specs.declared.Listed.{Listed}
use Rattle.pacsolve.specs.Problem.{Problem}
use Rattle.pacsolve.specs.Plan.{Plan, plan, chosen}
use Rattle.pacsolve.specs.Listing.{Good, Asked, Wanted, Least}
use Rattle.pacsolve.specs.Order.{lower}
use Rattle.node.specs.declared.Given.{Given}
use Rattle.node.specs.declared.Limit.{Limit as ALimit}
use Rattle.node.specs.declared.Limit.TheVariants.{Under, Before}
use Rattle.node.specs.declared.Node.{Node}
use Rattle.node.specs.Sought.{under, before, Inside, limit_of, asked_of}
use Rattle.node.specs.Narrowing.{Ready, Narrowed}
use Rattle.search.specs.Walks.{Tightened, same, better, Searched, Written, Walked}
use Rattle.search.specs.Found.{Posed, Whole, Above, firstly, NoneUnder, FoundUnder, none_under, found_least}

module _ (p : Problem) (q : Asked) (must ban : ℕ) (choices : List ℕ) (all_inside : (P : Plan) → Good p P → Wanted p q P → Inside p must ban choices P) where
  -- nothing that is asked for costs less than the bound
  searched_none_under : (c d : Cost) → Searched p q (under c) must ban choices (under d) → NoneUnder p q c
  searched_none_under c d s Q g w b =
      s.spent Q (record { good = g; wanted = w; below = rw (same_bound s.tightened) b; inside = all_inside Q g w })
    where
      same_bound : Tightened p q (under c) (under d) → d ≡ c
      same_bound (same e) = cc
      same_bound (better g w b e) = cc

  searched_least : (c : Cost) (P : Plan) → Searched p q (under c) must ban choices (before P) → Least p q P
  searched_least c P s = go s.tightened
    where
      go : Tightened p q (under c) (before P) → Least p q P
      go (same e) = cc
      go (better {P = R} g w b e) =
          let its : P ≡ R = cc in
          record {
            good = rw its g;
            wanted = rw its w;
            least = λ Q h v k. s.spent Q (record { good = h; wanted = v; below = k; inside = all_inside Q h v });
          }

-- no plan is found yet, and the limit is a bound
module _ (p : Problem) (given : Option Given) (buffer : List ℕ) (posed : Posed p given buffer) (limit : ALimit) (c : Cost) (bound : limit ≡ Under c) where
  rooted_ready : (node : Node) → Member node.must p.root → Ready p node limit buffer
  rooted_ready node rooted =
      record { entries = posed.entries; slots = posed.slots; plan_sized = posed.plan_sized; costed = rw bound tt; rooted = rooted }

  -- the node that a round begins with
  module _ (node : Node) (choices : List ℕ) (whole : Whole p (asked_of given) (Some node) choices) where
    pub whole_ready : Ready p node limit buffer
    whole_ready = rooted_ready node (whole.rooted node refl)

    all_inside : (P : Plan) → Good p P → Wanted p (asked_of given) P → Inside p node.must node.ban choices P
    all_inside P g w = let x = whole.whole P g w in let its : node ≡ x.0 = cc in rw its x.2

    -- what is found is the least, and where nothing is found there is nothing below the bound
    pub found_before : (best : Listed) (buffer' : List ℕ) → Walked p (asked_of given) node choices limit buffer (Before best) buffer'
        → FoundUnder p (asked_of given) c buffer (Some best) buffer'
    found_before best buffer' w =
        found_least refl (searched_least p (asked_of given) node.must node.ban choices all_inside c (plan best.set buffer') (rw bound at w.searched)) w.costed

    pub found_under : (d : Cost) (buffer' : List ℕ) → Walked p (asked_of given) node choices limit buffer (Under d) buffer'
        → FoundUnder p (asked_of given) c buffer None buffer'
    found_under d buffer' w = go w.written
      where
        go : Written limit buffer (Under d) buffer' → FoundUnder p (asked_of given) c buffer None buffer'
        go (inl (best, e)) = cc
        go (inr x) = none_under refl (searched_none_under p (asked_of given) node.must node.ban choices all_inside c d (rw bound at w.searched)) x.0

  -- the node of the root alone
  module _ (node : Node) (with_root : With 0 p.root node.must) where
    small : p.root < 64
    small = omega (arith, posed.root, posed.entries)

    has_root : Member node.must p.root
    has_root = (with_root.members small p.root).1 (inl refl)

    pub start_ready : Ready p node limit buffer
    start_ready = rooted_ready node has_root

    root_only : (e : ℕ) → Member node.must e → e ≡ p.root
    root_only e m = go ((with_root.members small e).0 m)
      where
        go : (e ≡ p.root) ⊎ Member 0 e → e ≡ p.root
        go (inl h) = h
        go (inr h) = absurd (none_in_empty e h)

    -- every good plan is inside, so what narrowing leaves of it below a bound above every cost is whole
    pub start_whole : (choices : List ℕ) → ((s e : ℕ) → s < p.slots → e < p.entries → p.fits s e → Member (get_or choices s 0) e) → node.ban ≡ 0 → (top : ℕ)
        → c ≡ firstly top → Above p top → (after : Option Node) (left : List ℕ) → Narrowed p (asked_of given) (limit_of limit buffer) node choices after left
        → Whole p (asked_of given) after left
    start_whole choices all_fits free top its above after left n =
        record {
          rooted = λ next e. (n.fewer next e).more p.root has_root;
          whole = λ P g w. n.keeps P (record { good = g; wanted = w; below = rw (bound, its) (lower (above P.set)); inside = inside P g });
        }
      where
        inside : (P : Plan) → Good p P → Inside p node.must node.ban choices P
        inside P g =
            record {
              has = λ e m. rw (root_only e m) g.sound.rooted.root;
              lacks = λ e m. absurd (none_in_empty e (rw free at m));
              names = λ s h m. let f = g.sound.fitting s h m in all_fits s (chosen P s) h f.0 f.1;
            }
