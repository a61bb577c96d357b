-- The laws of rows: at most one number is given, and a number and none never both; where each condition holds or not, one of the two.
use mathlib.Core.Path.{◌≡◌, refl, sym, ◌∙◌}
use mathlib.Core.List.{List, [], ◌∷◌, ◌++◌}
use mathlib.Core.Logic.{◌⊎◌, inl, inr, ⊎_elim}
use Prim.Native.Nat.{ℕ}
use Rattle.basis.specs.Bytes.{All}
use Rattle.basis.specs.Rows.{Row, Gives, GivesNone}

pub gives_one : (rs : List Row) (m n : ℕ) → Gives rs m → Gives rs n → m ≡ n
gives_one [] m n a b = absurd a
gives_one (r ∷ rs) m n (inl a) (inl b) = a.1 ∙ sym b.1
gives_one (r ∷ rs) m n (inl a) (inr b) = absurd (b.0 a.0)
gives_one (r ∷ rs) m n (inr a) (inl b) = absurd (a.0 b.0)
gives_one (r ∷ rs) m n (inr a) (inr b) = gives_one rs m n a.1 b.1

pub gives_not_none : (rs : List Row) (n : ℕ) → Gives rs n → ¬ GivesNone rs
gives_not_none [] n a b = a
gives_not_none (r ∷ rs) n (inl a) b = b.0 a.0
gives_not_none (r ∷ rs) n (inr a) b = gives_not_none rs n a.1 b.1

-- each condition of the rows holds or not, which may rest on no row before it applying
abbrev pub Settled : List Row → Type 0
Settled [] = Unit {0}
Settled (r ∷ rs) = Dec r.applies × (¬ r.applies → Settled rs)

-- in particular where each holds or not by itself
pub settled_each : (rs : List Row) → All (λ r. Dec r.applies) rs → Settled rs
settled_each [] d = tt
settled_each (r ∷ rs) d = (d.0, λ n. settled_each rs d.1)

pub gives_some : (rs : List Row) → Settled rs → ((n : ℕ) × Gives rs n) ⊎ GivesNone rs
gives_some [] s = inr tt
gives_some (r ∷ rs) s = go s.0 (λ n. gives_some rs (s.1 n))
  where
    go : Dec r.applies → (¬ r.applies → ((n : ℕ) × Gives rs n) ⊎ GivesNone rs) → ((n : ℕ) × Gives (r ∷ rs) n) ⊎ GivesNone (r ∷ rs)
    go (yes a) x = inl (r.number, inl (a, refl))
    go (no n) x = ⊎_elim (λ y. inl (y.0, inr (n, y.1))) (λ y. inr (n, y)) (x n)

-- what holds of each row's number holds of the number given
pub gives_among : (P : ℕ → Type 0) (rs : List Row) (n : ℕ) → All (λ r. P r.number) rs → Gives rs n → P n
gives_among P [] n a g = absurd g
gives_among P (r ∷ rs) n a (inl g) = rw g.1 a.0
gives_among P (r ∷ rs) n a (inr g) = gives_among P rs n a.1 g.1

-- rows after rows
pub none_before : (rs ss : List Row) → GivesNone (rs ++ ss) → GivesNone rs × GivesNone ss
none_before [] ss g = (tt, g)
none_before (r ∷ rs) ss g = let p = none_before rs ss g.1 in ((g.0, p.0), p.1)

pub none_after : (rs ss : List Row) → GivesNone rs → GivesNone ss → GivesNone (rs ++ ss)
none_after [] ss a b = b
none_after (r ∷ rs) ss a b = (a.0, none_after rs ss a.1 b)

pub gives_before : (rs ss : List Row) (n : ℕ) → Gives rs n → Gives (rs ++ ss) n
gives_before [] ss n a = absurd a
gives_before (r ∷ rs) ss n (inl a) = inl a
gives_before (r ∷ rs) ss n (inr a) = inr (a.0, gives_before rs ss n a.1)

pub gives_after : (rs ss : List Row) (n : ℕ) → GivesNone rs → Gives ss n → Gives (rs ++ ss) n
gives_after [] ss n a b = b
gives_after (r ∷ rs) ss n a b = inr (a.0, gives_after rs ss n a.1 b)

pub gives_last : (rs ss : List Row) (n : ℕ) → GivesNone rs → Gives (rs ++ ss) n → Gives ss n
gives_last [] ss n a b = b
gives_last (r ∷ rs) ss n a (inl b) = absurd (a.0 b.0)
gives_last (r ∷ rs) ss n a (inr b) = gives_last rs ss n a.1 b.1

pub settled_append : (rs ss : List Row) → Settled rs → (GivesNone rs → Settled ss) → Settled (rs ++ ss)
settled_append [] ss a b = b tt
settled_append (r ∷ rs) ss a b = (a.0, λ n. settled_append rs ss (a.1 n) (λ g. b (n, g)))
