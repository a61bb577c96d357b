-- A node with more entries banned: what makes it so, and that no plan is lost where no plan has one of them.
use mathlib.Core.Path.{◌≡◌, refl}
use mathlib.Core.List.{List}
use mathlib.Core.Logic.{⊎_elim}
use Rattle.std.specs.Prelude.{Option, Some, None}
use Prim.Native.Nat.{ℕ, ◌<◌}
use lib.Bits.{bit_and, bit_or}
use lib.ListN.{get_or}
use Rattle.bitset.specs.Bits.{Member}
use Rattle.bitset.proofs.Least.{some_member}
use Rattle.bitset.proofs.Made.{meet_members, join_members}
use Rattle.bitset.proofs.Sets.{not_empty, none_in_empty}
use Rattle.pacsolve.specs.Problem.{Problem}
use Rattle.pacsolve.specs.Plan.{Plan, chosen, MemberOf}
use Rattle.pacsolve.specs.Listing.{Good}
use Rattle.node.specs.declared.Node.{Node}
use Rattle.node.specs.Banning.{Bans, none_left, some_left}
use Rattle.node.specs.Sought.{Inside}
use Rattle.node.specs.Steps.{NoneGained, Fewer, Settled}
use Rattle.node.proofs.Left.{gained_none}

-- the bans joined: something must be there that must not, or the node is left
module _ (must ban out : ℕ) where
  pub joined_none : ¬ (bit_and must (bit_or ban out) ≡ 0) → Bans (record { must = must; ban = ban }) out None
  joined_none n =
      let some = some_member (bit_and must (bit_or ban out)) n in
      let both = (meet_members must (bit_or ban out) some.0).0 some.1 in
      none_left some.0 both.0 ((join_members ban out some.0).0 both.1) refl

  pub joined_some : bit_and must (bit_or ban out) ≡ 0 → Bans (record { must = must; ban = ban }) out (Some (record { must = must; ban = bit_or ban out }))
  joined_some z =
      some_left
      (record {
        must = refl;
        ban = join_members ban out;
        apart = λ e m b. not_empty (bit_and must (bit_or ban out)) e ((meet_members must (bit_or ban out) e).1 (m, b)) z;
      }) refl

-- a plan inside the node that has none of them, and names choices that are left
pub banned_kept : (p : Problem) {node : Node} {r : Option Node} {out : ℕ} {choices left : List ℕ} → Bans node out r → (P : Plan) → Inside p node.must node.ban choices P
    → ((e : ℕ) → Member out e → ¬ MemberOf P e) → ((s : ℕ) → s < p.slots → MemberOf P (p.owner s) → Member (get_or left s 0) (chosen P s))
    → (n : Node) × (r ≡ Some n) × Inside p n.must n.ban left P
banned_kept p (none_left e m b same) P i out names =
    let there = i.has e m in absurd (⊎_elim (λ w. i.lacks e w there) (λ w. out e w there) b)
banned_kept p (some_left {n = n} b same) P i out names = (
  n,
  same,
  record {
    has = λ e m. i.has e (rw b.must at m);
    lacks = λ e m o. ⊎_elim (λ w. i.lacks e w o) (λ w. out e w o) ((b.ban e).0 m);
    names = names;
  },
)

pub banned_fewer : {node : Node} {r : Option Node} {out : ℕ} {choices left : List ℕ} → Bans node out r → NoneGained choices left → (n : Node) → r ≡ Some n
    → Fewer node.must choices n.must left
banned_fewer (none_left d m b same) g n e = cc
banned_fewer (some_left {n = a} b same) g n e =
    let its : n ≡ a = cc in record { more = λ e m. rw (its, b.must) m; fewer = g.fewer; sized = g.sized }

-- no good plan inside the node has one of them, and each names choices that are left
pub settled_banned : (p : Problem) {node : Node} {r : Option Node} {out : ℕ} {choices left : List ℕ} → Bans node out r
    → NoneGained choices left → ((P : Plan) → Good p P → Inside p node.must node.ban choices P
    → ((e : ℕ) → Member out e → ¬ MemberOf P e) × ((s : ℕ) → s < p.slots → MemberOf P (p.owner s) → Member (get_or left s 0) (chosen P s)))
    → Settled p node r choices left
settled_banned p b less none =
    record {
      less = less;
      fewer = banned_fewer b less;
      keeps = λ P g i. let x = none P g i in banned_kept p b P i x.0 x.1;
    }

-- nothing more is banned
pub settled_same : (p : Problem) {node : Node} {r : Option Node} {choices : List ℕ} → Bans node 0 r → Settled p node r choices choices
settled_same p b = settled_banned p b gained_none (λ P g i. (λ e m. absurd (none_in_empty e m), i.names))
