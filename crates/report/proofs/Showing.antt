-- Showing the listing's plans one after the other: the plan that comes next, how the output grows by it, and the whole once no further one is shown.
use mathlib.Core.Path.{◌≡◌, refl, sym, ap, ◌∙◌}
use mathlib.Core.List.{List, [], ◌∷◌, ◌++◌, append_assoc, append-nil}
use mathlib.Core.Logic.{◌⊎◌, inl, inr}
use Prim.Native.Nat.{ℕ, suc, ◌+◌, ◌≤◌, ◌<◌}
use native.Mathlib.Omega.{arith}
use lib.ListN.{length, take, length-append}
use lib.Seq.{take_at, take_all}
use Rattle.basis.specs.Rows.{GivesNone, number_of as refusal_number}
use Rattle.basis.specs.declared.Refusal.{Refusal}
use Rattle.basis.proofs.Lists.{in_right}
use Rattle.basis.proofs.Rows.{none_before}
use Rattle.pacsolve.specs.Problem.{Problem}
use Rattle.pacsolve.specs.Plan.{Plan as APlan, plan, Sound}
use Rattle.pacsolve.specs.Listing.{Listing, Asked, from_the_start, after, Least}
use Rattle.pacsolve.proofs.Fixed.{least_is_one, least_or_none_left}
use Rattle.pacsolve.proofs.Listing.{Onward, listing_one, onward_from_listing, onward_head, onward_tail, onward_end}
use Rattle.pacsolve.proofs.Enumerated.{listed, listing_exists}
use Rattle.catalogue.specs.Tables.{Lent, lent_of}
use Rattle.catalogue.specs.Refusals.{rows}
use Rattle.catalogue.specs.Gives.{problem}
use Rattle.std.proofs.Common.{Ok, Err}
use Rattle.pacsolve.specs.declared.Listed.{Listed}
use Rattle.catalogue.specs.declared.Lent.{Lent as Lending}
use Rattle.lister.specs.Answers.{Answer, Firsts, Nexts, refused, found}
use Rattle.lister.proofs.Asked.{answers_least, answers_none, given_back}
use Rattle.lister.proofs.Outcome.{computed}
use Rattle.csv_text.specs.Layout.{Line}
use Rattle.csv_text.specs.Says.{slot_count}
use Rattle.csv_text.proofs.Unique.{one_sheet}
use Rattle.report.specs.declared.members.Shown.{Shown}
use Rattle.report.specs.declared.put.Output.{Output}
use Rattle.report.specs.Output.{members, plans_from, shown, lent_by, first_rows, refusing, refused as print_refused, listed as print_listed}
use Rattle.report.specs.Adding.{Adds}
use Rattle.report.specs.Telling.{Tellable, AllTold, Catalogued, Showing, Unfinished, Further, NoFurther, FirstKnown, AllShown, PrintedIn, Showable}
use Rattle.report.proofs.Adding.{adds_both, adds_length}
use Rattle.report.proofs.Records.{members_short}

-- one plan more
plans_then : (number : ℕ) (lines : List Line) (Ps : List APlan) (Q : APlan)
    → plans_from number lines (Ps ++ (Q ∷ [])) ≡ plans_from number lines Ps ++ members (number + length Ps) Q.set lines
plans_then number lines [] Q = let n : number + 0 ≡ number = omega arith in rw (n, append-nil) refl
plans_then number lines (P ∷ Ps) Q =
    let n : number + suc (length Ps) ≡ suc number + length Ps = omega arith in
    rw n (ap (λ (l : List ℕ). members number P.set lines ++ l) (plans_then (suc number) lines Ps Q)
    ∙ sym (append_assoc (members number P.set lines) (plans_from (suc number) lines Ps) _))

-- what follows a plan in a listing
onward_past : (p : Problem) {a : Asked} (before : List APlan) (P : APlan) (more : List APlan) → Onward p a (before ++ (P ∷ more)) → Onward p (after P) more
onward_past p [] P more o = onward_tail p o
onward_past p (Q ∷ before) P more o = onward_past p before P more (onward_tail p o)

-- records of one plan are not too long
told_short : {l : Lending} {lines : List Line} (number set : ℕ) → number < 10 → Catalogued lines l
    → length (members number set lines) ≤ 3456
told_short {lines = lines} number set h g =
    omega (arith, members_short number set 0 lines h g.limited.lays.each, g.limited.few_entries)

module _ {l : Lending} {lines : List Line} {table : List ℕ} {start : Output} {before more : List APlan} {p : Shown} {o : Output}
    (g : Showing l lines table start before more p o) where
  abbrev L : Lent
  L = lent_by l.text.now lines

  abbrev last : APlan
  last = plan p.set table

  follows : Onward (problem L) (after last) more
  follows = onward_past (problem L) before last more (onward_from_listing (problem L) g.listing)

  backed : Sound (problem L) last
  backed = (g.listing.good last (in_right last before (last ∷ more) (inl refl))).sound

  accepted : GivesNone (rows L (length table))
  accepted = rw g.size g.unrefused

  sized : length o.bytes.now ≡ length start.bytes.now
  sized = adds_length (omega (arith, g.empty.unfilled, g.empty.roomy)) g.told (omega (arith, g.room, g.few, g.empty.roomy))

  -- there is room for a plan more
  pub plan_room : (set : ℕ) → p.number < 8 → Tellable l.text.now (record { set = set; number = p.number + 1 }) o
  plan_room set h =
      record { lines = lines; limited = g.catalogued.limited; one_digit = omega arith; room = omega (arith, sized, g.room, g.empty.roomy) }

  -- what a further plan and its absence say of the listing
  module _ {a : Answer} {table' : List ℕ} (n : Nexts L p.set table a table') where
    comes : {f : Listed} → a ≡ Ok f → (Qs : List APlan) → Onward (problem L) (after last) Qs
        → (more' : List APlan) × (Qs ≡ plan f.set table' ∷ more')
    comes e [] o =
        let z = (answers_none L (after last) table accepted backed a table' (onward_end (problem L) o) n).0 in
        let q : ◌≡◌ {A = ℕ} 0 1 = cc in absurd (omega arith)
    comes {f} e (R ∷ more') o =
        let z = answers_least L (after last) table accepted backed a table' R (onward_head (problem L) o) n in
        let same : R.set ≡ f.set = cc in
        let is : plan f.set table' ≡ R = ap (λ (k : ℕ). plan k table') (sym same) ∙ given_back L R table' z.1 in
        (more', ap (λ (Q : APlan). Q ∷ more') (sym is))

    pub none_comes : {f : Refusal} → a ≡ Err f → more ≡ []
    none_comes {f} e = go more follows
      where
        go : (Qs : List APlan) → Onward (problem L) (after last) Qs → Qs ≡ []
        go [] o = refl
        go (R ∷ Qs) o =
            let z = (answers_least L (after last) table accepted backed a table' R (onward_head (problem L) o) n).0 in
            let q : ◌≡◌ {A = ℕ} 0 1 = cc in absurd (omega arith)

    pub shows : {f : Listed} {o' : Output} → p.number < 8 → a ≡ Ok f → length table' ≡ length table
        → AllTold l.text.now (record { set = f.set; number = p.number + 1 }) o o'
        → (before' : List APlan) × (more' : List APlan) × Showing l lines table' start before' more' (record { set = f.set; number = p.number + 1 }) o'
    shows {f} {o'} h e size t = let x = comes e more follows in (before ++ (last ∷ []), x.0, further x.0 x.1)
      where
        put : Adds o (members (p.number + 1) f.set lines) o'
        put = t lines g.catalogued.limited.lays

        done : List APlan
        done = before ++ (last ∷ [])

        counted : length done ≡ p.number
        counted = length-append before (last ∷ []) ∙ omega (arith, g.numbered)

        spelled : shown lines (done ++ (plan f.set table' ∷ [])) ≡ shown lines done ++ members (p.number + 1) f.set lines
        spelled =
            let number : 1 + length done ≡ p.number + 1 = omega (arith, counted) in
            ap (λ (l : List ℕ). shown lines [] ++ l) (plans_then 1 lines done (plan f.set table') ∙ ap (λ (k : ℕ). plans_from 1 lines done ++ members k f.set lines) number)

        further : (more' : List APlan) → more ≡ plan f.set table' ∷ more'
            → Showing l lines table' start done more' (record { set = f.set; number = p.number + 1 }) o'
        further more' same =
            record {
              catalogued = g.catalogued;
              size = size ∙ g.size;
              unrefused = g.unrefused;
              listing = rw (append_assoc before (last ∷ []) (plan f.set table' ∷ more'), ← same) g.listing;
              numbered = omega (arith, counted);
              few = omega arith;
              told = rw spelled (adds_both (omega (arith, g.empty.unfilled)) g.told put);
              room = omega (arith, put.counted, g.room, told_short (p.number + 1) f.set (omega arith) g.catalogued);
              empty = g.empty;
            }

  -- eight plans are shown, or all
  pub shown_all : (8 ≤ p.number) ⊎ (more ≡ []) → AllShown l.text.now start o
  shown_all h ls k Ps listing =
      let same : lines ≡ ls = one_sheet g.catalogued.limited.lays k in
      let listing' : Listing (problem L) Ps = rw (← same) at listing in
      let whole : Ps ≡ before ++ (last ∷ more) = listing_one (problem L) listing' g.listing in
      rw (← same, whole, front h) g.told
    where
      counted : length (before ++ (last ∷ [])) ≡ p.number
      counted = length-append before (last ∷ []) ∙ omega (arith, g.numbered)

      front : (8 ≤ p.number) ⊎ (more ≡ []) → take 8 (before ++ (last ∷ more)) ≡ before ++ (last ∷ [])
      front (inl e) =
          ap (λ (l : List APlan). take 8 l) (sym (append_assoc before (last ∷ []) more))
          ∙ take_at (before ++ (last ∷ [])) more 8 (omega (arith, counted, g.few))
      front (inr e) = rw e (take_all 8 (before ++ (last ∷ [])) (omega (arith, counted, g.few)))

-- one plan more, or none, whatever is shown so far
module _ {l : Lending} {table : List ℕ} {p : Shown} {o : Output} (u : Unfinished l table p o) {a : Answer} {table' : List ℕ} (n : Nexts (lent_of l) p.set table a table') where
  pub advances : {f : Listed} {o' : Output} → a ≡ Ok f → length table' ≡ length table → AllTold l.text.now (record { set = f.set; number = p.number + 1 }) o o'
      → Further l table p o table' o' (record { set = f.set; number = p.number + 1 })
  advances e size t =
      record { further = omega arith; carries = λ lines start before more g. shows g (rw g.catalogued.lends at n) u.fewer e size t }

  pub stops : {f : Refusal} → a ≡ Err f → NoFurther l table p o o
  stops e = record { kept = refl; none = λ lines start before more g. none_comes g (rw g.catalogued.lends at n) e }

-- where there is none, all are shown
pub ended_all : {l : Lending} {lines : List Line} {table : List ℕ} {start : Output} {before more : List APlan} {p : Shown} {o o' : Output}
    → Showing l lines table start before more p o → NoFurther l table p o o' → AllShown l.text.now start o'
ended_all {lines = lines} {start = start} {before = before} {more = more} s e = rw e.kept (shown_all s (inr (e.none lines start before more s)))

-- the header and the first plan
module _ {l : Lending} {set : ℕ} {table : List ℕ} {start : Output} (k : FirstKnown l set table start) {mid : Output} (a : Adds start (shown [] []) mid) where
  title_size : length mid.bytes.now ≡ length start.bytes.now
  title_size = adds_length (omega (arith, k.empty.unfilled)) a (omega (arith, a.counted, k.empty.unfilled, k.empty.roomy))

  pub first_room : Tellable l.text.now (record { set = set; number = 1 }) mid
  first_room =
      record {
        lines = k.lines;
        limited = k.catalogued.limited;
        one_digit = omega arith;
        room = omega (arith, title_size, a.counted, k.empty.unfilled, k.empty.roomy);
      }

  pub first_shown : {o : Output} → AllTold l.text.now (record { set = set; number = 1 }) mid o
      → Showing l k.lines table start [] k.more (record { set = set; number = 1 }) o
  first_shown {o} t =
      record {
        catalogued = k.catalogued;
        size = k.size;
        unrefused = k.unrefused;
        listing = k.listing;
        numbered = refl;
        few = omega arith;
        empty = k.empty;
        told = rw (append-nil (members 1 set k.lines)) (adds_both (omega (arith, k.empty.unfilled)) a put);
        room = omega (arith, put.counted, a.counted, k.empty.unfilled, told_short 1 set (omega arith) k.catalogued);
      }
    where
      put : Adds mid (members 1 set k.lines) o
      put = t k.lines k.catalogued.limited.lays

-- what first's answer says of the output
module _ {l : Lending} {table : List ℕ} {o : Output} (v : Showable l table o) {a : Answer} {table' : List ℕ} (n : Firsts (lent_of l) table a table') where
  abbrev M : Lent
  M = lent_by l.text.now v.lines

  asked : Firsts M table a table'
  asked = rw v.catalogued.lends at n

  pub first_refused : {f : Refusal} {o' : Output} → a ≡ Err f → Adds o (refusing (refusal_number f)) o' → PrintedIn l.text.now o o'
  first_refused {f} {o'} e put = go asked
    where
      go : Firsts M table a table' → PrintedIn l.text.now o o'
      go (refused {r = r} g h i) =
          let same : r ≡ f = cc in
          record {
            out = refusing (refusal_number f);
            prints = print_refused v.lines (refusal_number r) v.catalogued.accepted v.catalogued.limited.lays (rw v.size at g) (ap (λ (q : Refusal). refusing (refusal_number q)) (sym same));
            put = put;
          }
      go (found g h i j) = let z : ◌≡◌ {A = ℕ} 0 1 = cc in absurd (omega arith)

  -- the least plan begins the listing
  record Begun (set : ℕ) : Type 0 where
    unrefused : GivesNone (first_rows l.text.now v.lines)
    more : List APlan
    listing : Listing (problem M) (plan set table' ∷ more)

  begun : {f : Listed} → a ≡ Ok f → Begun f.set
  begun {f} e = go asked
    where
      begin : (P : APlan) → Least (problem M) from_the_start P → plan f.set table' ≡ P → (Ps : List APlan) → Listing (problem M) Ps
          → GivesNone (first_rows l.text.now v.lines) → Begun f.set
      begin P k same [] ls g = absurd (least_or_none_left (problem M) k (onward_end (problem M) (onward_from_listing (problem M) ls)))
      begin P k same (Q ∷ Ps) ls g =
          let is : Q ≡ P = least_is_one (problem M) (onward_head (problem M) (onward_from_listing (problem M) ls)) k in
          record { unrefused = g; more = Ps; listing = rw (same ∙ sym is) ls }

      go : Firsts M table a table' → Begun f.set
      go (refused g h i) = let z : ◌≡◌ {A = ℕ} 0 1 = cc in absurd (omega arith)
      go (found {P = P} g h i j) =
          let one : P.set ≡ f.set = cc in
          let c = computed M (length table) (none_before (rows M (length table)) _ g).0 in
          begin P h (ap (λ (n : ℕ). plan n table') (sym one) ∙ given_back M P table' j) (listed (problem M) c) (listing_exists (problem M) c) (rw v.size at g)

  pub first_known : {f : Listed} → a ≡ Ok f → length table' ≡ length table → FirstKnown l f.set table' o
  first_known e size =
      let b = begun e in
      record {
        lines = v.lines;
        more = b.more;
        catalogued = v.catalogued;
        size = size ∙ v.size;
        unrefused = (none_before (rows M (slot_count v.lines)) _ b.unrefused).0;
        listing = b.listing;
        empty = v.empty;
      }

  pub all_printed : {f : Listed} {o' : Output} → a ≡ Ok f → AllShown l.text.now o o' → PrintedIn l.text.now o o'
  all_printed e t =
      let b = begun e in
      let k = v.catalogued.limited.lays in
      record { out = _; prints = print_listed v.lines _ v.catalogued.accepted k b.unrefused b.listing refl; put = t v.lines k _ b.listing }
