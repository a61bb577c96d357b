-- No two outputs fit one text, and so no two ways to leave a buffer.
use mathlib.Core.Path.{◌≡◌, sym, ap, ◌∙◌}
use mathlib.Core.List.{List}
use Prim.Native.Nat.{ℕ}
use lib.ListN.{length, take}
use Rattle.basis.proofs.Rows.{gives_one, gives_not_none}
use Rattle.pacsolve.specs.Plan.{Plan}
use Rattle.pacsolve.proofs.Listing.{listing_one}
use Rattle.catalogue.specs.Gives.{problem}
use Rattle.csv_text.specs.Layout.{Line}
use Rattle.csv_text.proofs.Unique.{one_sheet}
use Rattle.report.specs.Output.{shown, refusing, lent_by, read_rows, first_rows, Prints, Printed, unread, refused, listed}

pub prints_one : {text a b : List ℕ} → Prints text a → Prints text b → a ≡ b
prints_one {text} (unread m g e) (unread n h f) = e ∙ ap refusing (gives_one (read_rows text) m n g h) ∙ sym f
prints_one {text} (unread m g e) (refused ls n h l i f) = absurd (gives_not_none (read_rows text) m g h)
prints_one {text} (unread m g e) (listed ls Ps h l i j f) = absurd (gives_not_none (read_rows text) m g h)
prints_one {text} (refused ls m h l i e) (unread n g f) = absurd (gives_not_none (read_rows text) n g h)
prints_one {text} (listed ls Ps h l i j e) (unread n g f) = absurd (gives_not_none (read_rows text) n g h)
prints_one {text} (refused ls m g l i e) (refused ms n h k j f) =
    let same : ls ≡ ms = one_sheet l k in e ∙ ap refusing (gives_one (first_rows text ms) m n (rw same at i) j) ∙ sym f
prints_one {text} (refused ls m g l i e) (listed ms Ps h k j p f) =
    let same : ls ≡ ms = one_sheet l k in absurd (gives_not_none (first_rows text ms) m (rw same at i) j)
prints_one {text} (listed ls Ps g l i p e) (refused ms n h k j f) =
    let same : ls ≡ ms = one_sheet l k in absurd (gives_not_none (first_rows text ms) n j (rw same at i))
prints_one {text} (listed ls Ps g l i p e) (listed ms Qs h k j q f) =
    let same : ls ≡ ms = one_sheet l k in
    let plans : Ps ≡ Qs = listing_one (problem (lent_by text ms)) (rw same at p) q in
    e ∙ ap (λ (m : List Line). shown m (take 8 Ps)) same ∙ ap (λ (Rs : List Plan). shown ms (take 8 Rs)) plans ∙ sym f

pub printed_one : {text lent : List ℕ} {m n : ℕ} {b c : List ℕ} → Printed text lent m b → Printed text lent n c → (m ≡ n) × (b ≡ c)
printed_one {lent = lent} p q =
    let out : p.out ≡ q.out = prints_one p.prints q.prints in
    let size = p.counted ∙ ap length out ∙ sym q.counted in
    (size, p.written ∙ cc (out, size) ∙ sym q.written)
