-- Sets of keys: those that lie in a range, gathered one key after the other, and all of them.
use mathlib.Core.Path.{◌≡◌}
use mathlib.Core.List.{List}
use mathlib.Core.Logic.{◌⊎◌, ◌↔◌, inl, inr}
use Prim.Native.Nat.{ℕ, ◌-◌, ◌^◌, ◌<◌}
use native.Mathlib.Omega.{arith}
use lib.Bits.{bit_and, bit_or}
use lib.ListN.{length, get_or}
use lib.Pow.{pow_pos}
use Rattle.bitset.specs.Bits.{Member}
use Rattle.bitset.proofs.Sets.{none_in_empty}
use Rattle.bitset.proofs.Made.{meet_members, join_members, rest_members}
use Rattle.constraint.specs.declared.Version.{Version}
use Rattle.constraint.specs.Meaning.{Bound, Constraint, any, bound, both, either, Satisfies}
use Rattle.constraint.specs.Range.{Between, Spans, Chosen, AllBelow}
use Rattle.constraint.specs.Selection.{unkey, Picks}

-- the numbers below n are the members of 2 ^ n - 1
pub below_all : (n : ℕ) → AllBelow n (2 ^ n - 1)
below_all n = record { members = members }
  where
    members : (e : ℕ) → Member (2 ^ n - 1) e ↔ (e < n)
    members e =
        let whole : 2 ^ n - 1 - 0 ≡ 2 ^ n - 1 = omega arith in
        let rest = rest_members n 0 e (pow_pos n) in
        (λ m. (rest.0 (rw whole m)).0, λ l. rw whole at (rest.1 (l, none_in_empty e)))

-- the set of those of the first i keys that lie between low and high
pub record ChosenOf (keys : List ℕ) (low high i set : ℕ) : Type 0 where
  pub members : (e : ℕ) → Member set e ↔ ((e < i) × Between low high (get_or keys e 0))

-- the keys in a bound's range are those that satisfy the bound
pub picks_bound : {keys : List ℕ} {o : Bound} {b : Version} {low high set : ℕ} → ((e : ℕ) → get_or keys e 0 < 2 ^ 64) → Spans o b low high
    → Chosen keys low high set → Picks keys (bound o b) set
picks_bound {keys} fits s c e =
    let range = s.meets (get_or keys e 0) (fits e) in
    (λ m. let p = (c.members e).0 m in (p.0, range.1 p.1), λ p. (c.members e).1 (p.0, range.0 p.1))

-- all keys satisfy `*`
pub picks_any : (keys : List ℕ) {set : ℕ} → AllBelow (length keys) set → Picks keys any set
picks_any keys b e = (λ m. ((b.members e).0 m, tt), λ p. (b.members e).1 p.0)

-- the keys of `and` are those of both sides, and the keys of `or` those of either
pub picks_both : (keys : List ℕ) (c d : Constraint) (a b : ℕ) → Picks keys c a → Picks keys d b → Picks keys (both c d) (bit_and a b)
picks_both keys c d a b p q e =
    let meet = meet_members a b e in (
      λ m. let x = (p e).0 (meet.0 m).0 in let y = (q e).0 (meet.0 m).1 in (x.0, (x.1, y.1)),
      λ h. meet.1 ((p e).1 (h.0, h.1.0), (q e).1 (h.0, h.1.1)),
    )

pub picks_either : (keys : List ℕ) (c d : Constraint) (a b : ℕ) → Picks keys c a → Picks keys d b → Picks keys (either c d) (bit_or a b)
picks_either keys c d a b p q e = (λ m. from ((join_members a b e).0 m), λ h. (join_members a b e).1 (into h.0 h.1))
  where
    v : Version
    v = unkey (get_or keys e 0)

    from : Member a e ⊎ Member b e → (e < length keys) × (Satisfies v c ⊎ Satisfies v d)
    from (inl m) = let x = (p e).0 m in (x.0, inl x.1)
    from (inr m) = let y = (q e).0 m in (y.0, inr y.1)

    into : e < length keys → Satisfies v c ⊎ Satisfies v d → Member a e ⊎ Member b e
    into l (inl x) = inl ((p e).1 (l, x))
    into l (inr y) = inr ((q e).1 (l, y))
