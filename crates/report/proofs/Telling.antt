-- Telling a plan's members line after line: there is room for each record, each line adds its own, and behind the last line all are told.
use mathlib.Core.Path.{◌≡◌, refl, sym, ap, ◌∙◌}
use mathlib.Core.Bool.{Bool, true, false}
use mathlib.Core.List.{List, [], ◌∷◌, ◌++◌}
use Prim.Native.Nat.{ℕ, ◌+◌, ◌*◌, ◌≤◌, ◌<◌}
use native.Mathlib.Omega.{arith}
use lib.Dec.{T, eqb, eqb→eq}
use lib.ListN.{length, take, drop}
use Rattle.bitset.specs.Bits.{bit, Member}
use Rattle.csv_text.specs.declared.line.EntryParts.{EntryParts}
use Rattle.csv_text.specs.declared.line.SlotParts.{SlotParts}
use Rattle.csv_text.specs.Layout.{Line, FieldByte, body, crlf}
use Rattle.csv_text.specs.Says.{entry_count}
use Rattle.csv_text.specs.Reader.{IsLine, EntryFound, SlotFound, NoLine, Run}
use Rattle.csv_text.proofs.Unique.{one_sheet}
use Rattle.csv_text.proofs.Walks.{◌then◌, Next, next_line, next_ok, lines_at_end, all_passed, lays_headed, walked_none, walked_on, entry_next, slot_next, entry_before, entries_then_entry, entries_then_slot}
use Rattle.csv_text.proofs.Found.{entry_of, slot_of}
use Rattle.csv_text.proofs.Filled.{entry_is, slot_is, entries_of_append}
use Rattle.report.specs.declared.members.Place.{Place}
use Rattle.report.specs.declared.members.Shown.{Shown}
use Rattle.report.specs.declared.put.Output.{Output}
use Rattle.report.specs.Output.{record_of, present, members}
use Rattle.report.specs.Adding.{Room, Adds}
use Rattle.report.specs.Telling.{MemberRoom, MemberTold, Telling, Underway, Tells, Tellable, AllTold}
use Rattle.report.proofs.Adding.{adds_none, adds_both, adds_length}
use Rattle.report.proofs.Records.{version_within, fields_short, record_spelled, members_short, members_entry, members_slot}

-- what an entry that is no member adds, and one that is
absent : (b : Bool) (bs : List ℕ) → ¬ T b → present b bs ≡ []
absent true bs n = absurd (n tt)
absent false bs n = refl

there : (b : Bool) (bs : List ℕ) → T b → present b bs ≡ bs
there true bs t = refl
there false bs t = absurd t

pub no_member : (set index : ℕ) (bs : List ℕ) {o : Output} → ¬ Member set index → Adds o (present (eqb (bit set index) 1) bs) o
no_member set index bs {o} n = rw (absent (eqb (bit set index) 1) bs (λ t. n (eqb→eq (bit set index) 1 t))) (adds_none o)

-- a member's record can be put, and is put
module _ {text : List ℕ} {e : EntryParts} {s : Shown} {o : Output} (m : MemberRoom text e s o) where
  pub version_there : e.name + 1 ≤ length text
  version_there = version_within text m.found

  pub record_room : {k : ℕ} → Run FieldByte (drop (e.name + 1) text) k → Room o (4 + length (take (e.name + 1 + k) text))
  record_room {k} run = omega (arith, m.room, fields_short text m.found run)

  pub member_put : (index : ℕ) {k : ℕ} {o' : Output} → Run FieldByte (drop (e.name + 1) text) k → Member s.set index
      → Adds o ((48 + s.number) ∷ 44 ∷ (take (e.name + 1 + k) text ++ crlf)) o' → MemberTold text e s index o o'
  member_put index run i a f =
      rw (there (eqb (bit s.set index) 1) (record_of s.number f.name f.x f.y f.z) (rw i tt), record_spelled text f run s.number m.one_digit) a

-- where more lines follow
module _ {text : List ℕ} {s : Shown} {start : Output} {lines done : List Line} {p : Place} {o : Output}
    (g : Telling text s start lines done p o) where
  done_short : length (members s.number s.set done) ≤ 54 * entry_count done
  done_short = members_short s.number s.set 0 done g.one_digit g.walked.each

  -- the buffer keeps its length
  sized : entry_count done ≤ 64 → length o.bytes.now ≡ length start.bytes.now
  sized h = adds_length (omega (arith, g.room)) g.told (omega (arith, g.told.counted, g.room, done_short))

  module _ (h : p.at + 2 < length text) where
    pub coming : Next text lines done p.at
    coming = next_line g.walked g.limited.lays h

    pub entries_before : entry_count done + entry_count (coming.line ∷ coming.more) ≤ 64
    entries_before = omega (arith, g.limited.few_entries, ap entry_count coming.same ∙ entries_of_append done (coming.line ∷ coming.more))

    -- an entry comes next
    module _ {e : EntryParts} (f : EntryFound (drop (p.at + 2) text) e) where
      pub member_room : MemberRoom (drop (p.at + 2) text) e s o
      member_room =
          record {
            found = f;
            one_digit = g.one_digit;
            room =
                omega (
                  arith,
                  sized (omega (arith, entries_before)),
                  g.told.counted,
                  g.room,
                  done_short,
                  g.limited.few_entries,
                  ap entry_count (entry_is g.limited.lays coming f) ∙ entries_of_append done (entry_of f ∷ coming.more),
                );
          }

      pub entry_told : {o' : Output} → MemberTold (drop (p.at + 2) text) e s p.entries o o'
          → Telling text s start lines (done then entry_of f) (record { at = p.at + 2 + e.used; entries = p.entries + 1 }) o'
      entry_told {o'} m =
          record {
            limited = g.limited;
            one_digit = g.one_digit;
            room = g.room;
            walked =
                rw f.used
                (walked_on (entry_of f) f.rest g.walked h f.ok (entry_next done f.name f.x f.y f.z f.weight g.walked.first) f.whole f.ends);
            declared = omega (arith, g.declared, entries_then_entry done f.name f.x f.y f.z f.weight);
            told =
                rw (members_entry s.number s.set 0 done f.name f.x f.y f.z f.weight)
                (adds_both (omega (arith, g.room)) g.told (rw (g.declared ∙ index) at (m f)));
          }
        where
          index : entry_count done ≡ 0 + entry_count done
          index = omega arith

    -- a slot comes next
    pub slot_told : {e : SlotParts} (f : SlotFound (drop (p.at + 2) text) e)
        → Telling text s start lines (done then slot_of f) (record { at = p.at + 2 + e.used; entries = p.entries }) o
    slot_told {e} f =
        record {
          limited = g.limited;
          one_digit = g.one_digit;
          room = g.room;
          walked =
              rw f.used
              (walked_on (slot_of f) f.rest g.walked h f.ok (slot_next done f.name f.constraint g.walked.first some_entry) f.whole f.ends);
          declared = g.declared ∙ sym (entries_then_slot done f.name f.constraint);
          told = rw (members_slot s.number s.set 0 done f.name f.constraint) g.told;
        }
      where
        some_entry : ¬ (entry_count done ≡ 0)
        some_entry = entry_before done f.name f.constraint coming.more (rw (slot_is g.limited.lays coming f) at g.limited.lays.first)

-- one line more is passed, whichever it is
module _ {text : List ℕ} {s : Shown} {p : Place} {o : Output} (h : p.at + 2 < length text) where
  pub tells_entry : {e : EntryParts} (f : EntryFound (drop (p.at + 2) text) e) {o' : Output}
      → MemberTold (drop (p.at + 2) text) e s p.entries o o' → Tells text s p o (record { at = p.at + 2 + e.used; entries = p.entries + 1 }) o'
  tells_entry f m = record { onward = omega arith; told = λ start lines done g. (entry_of f, entry_told g h f m) }

  pub tells_slot : {e : SlotParts} (f : SlotFound (drop (p.at + 2) text) e)
      → Tells text s p o (record { at = p.at + 2 + e.used; entries = p.entries }) o
  tells_slot f = record { onward = omega arith; told = λ start lines done g. (slot_of f, slot_told g h f) }

-- a line stands there
pub no_line_left : {text : List ℕ} {s : Shown} {p : Place} {o : Output} → Underway text s p o → ¬ NoLine IsLine (drop (p.at + 2) text)
no_line_left v never =
    let g = v.telling in
    let x = next_line g.walked g.limited.lays v.more in
    never x.line tt (next_ok g.limited.lays x) (body x.more ++ x.ending) (lines_at_end x.more x.ending x.ends) x.rest

-- before the first line
pub telling_none : {text : List ℕ} {s : Shown} {o : Output} (v : Tellable text s o) → Telling text s o v.lines [] (record { at = 39; entries = 0 }) o
telling_none {o = o} v =
    record {
      limited = v.limited;
      one_digit = v.one_digit;
      room = v.room;
      walked = walked_none (lays_headed v.limited.lays);
      declared = refl;
      told = adds_none o;
    }

-- behind the last
pub all_told : {text : List ℕ} {s : Shown} {start : Output} {lines done : List Line} {p : Place} {o : Output}
    → Telling text s start lines done p o → length text ≤ p.at + 2 → AllTold text s start o
all_told {text} {lines = lines} {done = done} g h ls l =
    let same : done ≡ ls = all_passed g.walked g.limited.lays h ∙ one_sheet g.limited.lays l in
    rw same at g.told
