-- Errors of reasoning to exclude: for each a small catalogue on which the wrong reading would give something else than the definitions do.
-- Entry 0 is the root, of package 0 and version 1.0.0; most constraints are `*`, the text's first byte.
use Rattle.std.specs.Prelude.{◌≡◌, [], ◌∷◌, ℕ}
use Rattle.basis.specs.Bytes.{bytes}
use Rattle.basis.specs.Rows.{Gives}
use Rattle.pacsolve.specs.Plan.{Plan, plan, Rooted, Named, Fitting, Consistent, Acyclic, faults}
use Rattle.pacsolve.specs.Cost.{cost}
use Rattle.catalogue.specs.Tables.{Lent, lent}
use Rattle.catalogue.specs.Gives.{npm, problem}
use Rattle.demands.specs.Claims.{settings, forbidden, allowed, Yields}

-- The root needs the player (1). The plug-in (2) needs the player too, and nothing needs the plug-in. Objective 1
unfoldable pub plug_in : Lent
plug_in =
    lent
    (0 ∷ 1 ∷ 0 ∷ 0 ∷ 0
    ∷ 1 ∷ 1 ∷ 0 ∷ 0 ∷ 0
    ∷ 2 ∷ 1 ∷ 0 ∷ 0 ∷ 0 ∷ [])
    (0 ∷ 1 ∷ 0 ∷ 1
    ∷ 2 ∷ 1 ∷ 0 ∷ 1 ∷ [])
    (bytes "*") (settings 0 npm forbidden) (1 ∷ [])

-- the root, the player and the plug-in, whose slot names the player
abbrev pub with_plug_in : Plan
with_plug_in = plan 7 (1 ∷ 1 ∷ [])

-- The root needs A. A 1.0.0 (1) needs nothing; A 2.0.0 (2), the newest, needs package 2, of which there is no entry. Objective 1
unfoldable pub dead_end : Lent
dead_end =
    lent
    (0 ∷ 1 ∷ 0 ∷ 0 ∷ 0
    ∷ 1 ∷ 1 ∷ 0 ∷ 0 ∷ 0
    ∷ 1 ∷ 2 ∷ 0 ∷ 0 ∷ 0 ∷ [])
    (0 ∷ 1 ∷ 0 ∷ 1
    ∷ 2 ∷ 2 ∷ 0 ∷ 1 ∷ [])
    (bytes "*") (settings 0 npm forbidden) (1 ∷ [])

-- The root needs A. A 1.0.0 (1) weighs 5 and needs nothing; A 2.0.0 (2) weighs 1 and needs B; B 1.0.0 (3) weighs 1 and needs A 2.0.0 itself. Objective 0
unfoldable pub cheap_cycle : ℕ → Lent
cheap_cycle cycles =
    lent
    (0 ∷ 1 ∷ 0 ∷ 0 ∷ 0
    ∷ 1 ∷ 1 ∷ 0 ∷ 0 ∷ 5
    ∷ 1 ∷ 2 ∷ 0 ∷ 0 ∷ 1
    ∷ 2 ∷ 1 ∷ 0 ∷ 0 ∷ 1 ∷ [])
    (0 ∷ 1 ∷ 0 ∷ 1
    ∷ 2 ∷ 2 ∷ 0 ∷ 1
    ∷ 3 ∷ 1 ∷ 1 ∷ 10 ∷ [])
    (bytes "*(= 2 0 0)") (settings 0 npm cycles) (0 ∷ [])

-- Two A of equal weight, objective 0, root needs A: A 1.0.0 (1) and A 2.0.0 (2) weigh 7 each
unfoldable pub tie : Lent
tie =
    lent
    (0 ∷ 1 ∷ 0 ∷ 0 ∷ 0
    ∷ 1 ∷ 1 ∷ 0 ∷ 0 ∷ 7
    ∷ 1 ∷ 2 ∷ 0 ∷ 0 ∷ 7 ∷ [])
    (0 ∷ 1 ∷ 0 ∷ 1 ∷ [])
    (bytes "*") (settings 0 npm forbidden) (0 ∷ [])

-- The root needs A twice; A 1.0.0 (1) and A 2.0.0 (2). Nothing weighs anything, so at objective 0 all plans cost the same
unfoldable pub twice : Lent
twice =
    lent
    (0 ∷ 1 ∷ 0 ∷ 0 ∷ 0
    ∷ 1 ∷ 1 ∷ 0 ∷ 0 ∷ 0
    ∷ 1 ∷ 2 ∷ 0 ∷ 0 ∷ 0 ∷ [])
    (0 ∷ 1 ∷ 0 ∷ 1
    ∷ 0 ∷ 1 ∷ 0 ∷ 1 ∷ [])
    (bytes "*") (settings 0 npm forbidden) (0 ∷ [])

pub record Excluded : Type 0 where
  -- Taking a member that only points into the plan as joined to it: no plan has the plug-in, and one that has it fails condition 2 first, and no other
  pub plug_in_left_out : Yields plug_in 2 (plan 3 (1 ∷ 255 ∷ []) ∷ [])
  pub plug_in_unreached : Gives (faults (problem plug_in) with_plug_in) 2
  pub plug_in_else_sound : Rooted (problem plug_in) with_plug_in
      × (Named (problem plug_in) with_plug_in
      × (Fitting (problem plug_in) with_plug_in × (Consistent (problem plug_in) with_plug_in × Acyclic (problem plug_in) with_plug_in)))
  -- Taking the newest version and giving up when its needs fail, as 001 shows of npm: the older version is taken
  pub older_taken : Yields dead_end 2 (plan 3 (1 ∷ 255 ∷ []) ∷ [])
  -- Testing for cycles only after one plan is found: the least plan where cycles are allowed has one, and where they are forbidden a dearer plan is there
  pub cheapest_has_cycle : Yields (cheap_cycle allowed) 3 (plan 13 (2 ∷ 3 ∷ 2 ∷ []) ∷ plan 3 (1 ∷ 255 ∷ 255 ∷ []) ∷ [])
  pub dearer_without : Yields (cheap_cycle forbidden) 3 (plan 3 (1 ∷ 255 ∷ 255 ∷ []) ∷ [])
  -- Assuming equal cost means equal plan, so a tie is skipped: two plans of one cost are both listed
  pub tied : cost (problem tie) 3 ≡ cost (problem tie) 5
  pub tie_listed : Yields tie 1 (plan 3 (1 ∷ []) ∷ plan 5 (2 ∷ []) ∷ [])
  -- Forcing one choice on two slots of an owner for the same package; they may also differ: all four tables are listed
  pub choices_differ : Yields twice 2 (plan 3 (1 ∷ 1 ∷ []) ∷ plan 7 (1 ∷ 2 ∷ []) ∷ plan 7 (2 ∷ 1 ∷ []) ∷ plan 5 (2 ∷ 2 ∷ []) ∷ [])
