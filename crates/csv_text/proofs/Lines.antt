-- Lines read field by field: what is left of a text after each field of a line is fixed by the text, so a line that is not found in this order is none.
use mathlib.Core.Path.{◌≡◌, refl, sym, ap, ◌∙◌}
use mathlib.Core.List.{List, [], ◌∷◌, ◌++◌, append_assoc, tail-eq_of_cons-eq}
use mathlib.Core.Logic.{inl, inr}
use Prim.Native.Nat.{ℕ, ◌+◌, ◌≤◌}
use native.Mathlib.Omega.{arith}
use lib.ListN.{length, take, drop, length-append, length-drop, take-append-drop}
use lib.Seq.{drop-drop, drop_at, length-take-le}
use Rattle.basis.specs.Bytes.{bytes}
use Rattle.basis.proofs.Runs.{Stops, run_stops, run_ends}
use Rattle.constraint.specs.Numeral.{Digit}
use Rattle.constraint.specs.Reader.{Begins as Reads, Never, Ended}
use Rattle.csv_text.specs.declared.line.Release.{Release}
use Rattle.csv_text.specs.Layout.{Name, FieldByte, Number, entry, slot, written, EntryLine, SlotLine}
use Rattle.csv_text.specs.Reader.{Begins, AtEnd, Run, NoField, FieldFound, dotted, NoVersion, VersionFound, IsEntry, IsSlot, EntryFound, SlotFound, NoLine}
use Rattle.csv_text.proofs.Words.{after_word}
use Rattle.csv_text.proofs.Unique.{dot_no_digit, comma_no_digit}
use Rattle.csv_text.proofs.Fields.{Has, Writes, has_name, has_number, no_number, number_is, after_name, after_number, stops_there}

-- what is left after two parts, one behind the other
pub past : (text : List ℕ) (a b c : ℕ) → a + b ≡ c → drop b (drop a text) ≡ drop c text
past text a b c e = drop-drop b a text ∙ ap (λ (k : ℕ). drop k text) e

past_both : (text : List ℕ) (a b : ℕ) {s : List ℕ} → drop b (drop a text) ≡ s → drop (a + b) text ≡ s
past_both text a b e = sym (drop-drop b a text) ∙ e

-- no number stands in front of a sign
abbrev pub NoNumber : ℕ → List ℕ → Type 0
NoNumber a text = (n : ℕ) → Never (Ended a n) text

-- the three numbers of a version, in front of a dot, a dot and a comma
pub no_major : {text : List ℕ} → NoNumber 46 text → NoVersion text
no_major never x y z s p q r e = no_number never x _ p e

module _ {text : List ℕ} {n u : ℕ} (major : Reads (Ended 46 n) text u) where
  first : Has (Writes n) 46 text u
  first = has_number major

  pub no_minor : NoNumber 46 (drop u text) → NoVersion text
  no_minor never x y z s p q r e = no_number never y _ q (after_number dot_no_digit first p e)

  module _ {n₂ u₂ : ℕ} (minor : Reads (Ended 46 n₂) (drop u text) u₂) where
    second : Has (Writes n₂) 46 (drop u text) u₂
    second = has_number minor

    second_within : u + u₂ ≤ length text
    second_within = omega (arith, first.within, rw length-drop at second.within)

    rest : {x y t : List ℕ} → Number x → Number y → text ≡ x ++ (46 ∷ (y ++ (46 ∷ t))) → drop (u + u₂) text ≡ t
    rest p q e = past_both text u u₂ (after_number dot_no_digit second q (after_number dot_no_digit first p e))

    pub no_patch : NoNumber 44 (drop (u + u₂) text) → NoVersion text
    no_patch never x y z s p q r e = no_number never z s r (rest p q e)

    module _ {n₃ u₃ : ℕ} (patch : Reads (Ended 44 n₃) (drop (u + u₂) text) u₃) where
      third : Has (Writes n₃) 44 (drop (u + u₂) text) u₃
      third = has_number patch

      pub version_there : VersionFound text (record { version = record { major = n; minor = n₂; patch = n₃ }; used = u + u₂ + u₃ })
      version_there =
          record {
            x = first.bs;
            y = second.bs;
            z = third.bs;
            rest = drop u₃ (drop (u + u₂) text);
            major = number_is first.is;
            minor = number_is second.is;
            patch = number_is third.is;
            whole = cc (first.whole, second.whole, past text u u₂ (u + u₂) refl, third.whole);
            of_major = sym first.is.worth;
            of_minor = sym second.is.worth;
            of_patch = sym third.is.worth;
            used = omega (arith, first.size, second.size, third.size);
          }

-- what follows a version that is found
dotted_front : (x y z s : List ℕ) → dotted x y z s ≡ dotted x y z [] ++ s
dotted_front x y z s = simp append_assoc

dotted_size : (x y z s : List ℕ) → length (dotted x y z s) ≡ length x + 1 + (length y + 1) + (length z + 1) + length s
dotted_size x y z s = simp length-append (omega arith)

version_rest : {text : List ℕ} {r : Release} (v : VersionFound text r) → drop r.used text ≡ v.rest
version_rest {r = r} v =
    ap (λ (t : List ℕ). drop r.used t) (v.whole ∙ dotted_front v.x v.y v.z v.rest)
    ∙ drop_at (dotted v.x v.y v.z []) v.rest r.used (omega (arith, v.used, dotted_size v.x v.y v.z []))

after_version : {text : List ℕ} {r : Release} → VersionFound text r → {x y z s : List ℕ} → Number x → Number y → Number z → text ≡ dotted x y z s
    → drop r.used text ≡ s
after_version v {x} {y} {z} p q o e =
    let a = run_ends Digit v.x x v.major.digits p.digits dot_no_digit dot_no_digit (sym v.whole ∙ e) in
    let b = run_ends Digit v.y y v.minor.digits q.digits dot_no_digit dot_no_digit (tail-eq_of_cons-eq a.1) in
    let c = run_ends Digit v.z z v.patch.digits o.digits comma_no_digit comma_no_digit (tail-eq_of_cons-eq b.1) in
    version_rest v ∙ tail-eq_of_cons-eq c.1

-- an entry's line, with what follows it
entry_spelled : (name x y z weight s : List ℕ) → written (entry name x y z weight) ++ s ≡ name ++ (44 ∷ dotted x y z (weight ++ (44 ∷ (44 ∷ s))))
entry_spelled name x y z weight s = simp append_assoc

pub entry_size : (name x y z weight : List ℕ) → length (written (entry name x y z weight))
    ≡ length name + 1 + (length x + 1 + (length y + 1) + (length z + 1)) + length weight + 1 + 1
entry_size name x y z weight = simp length-append (omega arith)

-- there is no entry where there is none of this spelling
no_entry : {text : List ℕ}
    → ((name x y z weight s : List ℕ) → EntryLine name x y z weight → AtEnd s → ¬ (text ≡ name ++ (44 ∷ dotted x y z (weight ++ (44 ∷ (44 ∷ s))))))
    → NoLine IsEntry text
no_entry never (entry name x y z weight) k ok s u e = never name x y z weight s ok u (e ∙ entry_spelled name x y z weight s)
no_entry never (slot name constraint) k ok s u e = k

pub entry_no_name : {text : List ℕ} → NoField Name 44 text → NoLine IsEntry text
entry_no_name never = no_entry (λ name x y z w s ok u e. never name _ ok.named e)

-- the fields of an entry, one after the other
module _ {text : List ℕ} {n : ℕ} (named : FieldFound Name 44 text n) where
  called : Has Name 44 text (n + 1)
  called = has_name named

  pub entry_no_version : NoVersion (drop (n + 1) text) → NoLine IsEntry text
  entry_no_version never = no_entry (λ name x y z w s ok u f. never x y z _ ok.major ok.minor ok.patch (after_name called ok.named f))

  module _ {r : Release} (version : VersionFound (drop (n + 1) text) r) where
    to_weight : {name x y z t : List ℕ} → Name name → Number x → Number y → Number z → text ≡ name ++ (44 ∷ dotted x y z t) → drop (n + 1 + r.used) text ≡ t
    to_weight q p o m e = past_both text (n + 1) r.used (after_version version p o m (after_name called q e))

    pub entry_no_weight : NoNumber 44 (drop (n + 1 + r.used) text) → NoLine IsEntry text
    entry_no_weight never =
        no_entry (λ name x y z w s ok u f. no_number never w _ ok.weighed (to_weight ok.named ok.major ok.minor ok.patch f))

    module _ {v k : ℕ} (weighed : Reads (Ended 44 v) (drop (n + 1 + r.used) text) k) where
      weight : Has (Writes v) 44 (drop (n + 1 + r.used) text) k
      weight = has_number weighed

      to_comma : {name x y z w t : List ℕ} → Name name → Number x → Number y → Number z → Number w → text ≡ name ++ (44 ∷ dotted x y z (w ++ (44 ∷ t)))
          → drop (n + 1 + r.used + k) text ≡ t
      to_comma q p o m j e = past_both text (n + 1 + r.used) k (after_number comma_no_digit weight j (to_weight q p o m e))

      pub entry_no_comma : ¬ Begins (bytes ",") (drop (n + 1 + r.used + k) text) → NoLine IsEntry text
      entry_no_comma other =
          no_entry (λ name x y z w s ok u f. other (s, to_comma ok.named ok.major ok.minor ok.patch ok.weighed f))

      pub entry_no_end : ¬ AtEnd (drop (n + 1 + r.used + k + 1) text) → NoLine IsEntry text
      entry_no_end other =
          no_entry (λ name x y z w s ok u f.
          let after = to_comma ok.named ok.major ok.minor ok.patch ok.weighed f in
          other (rw (past_both text (n + 1 + r.used + k) 1 (ap (λ (t : List ℕ). drop 1 t) after)) u))

      pub entry_there : Begins (bytes ",") (drop (n + 1 + r.used + k) text) → AtEnd (drop (n + 1 + r.used + k + 1) text)
          → EntryFound text (record { name = n; version = r.version; weight = v; used = n + 1 + r.used + k + 1 })
      entry_there b end =
          record {
            name = called.bs;
            x = version.x;
            y = version.y;
            z = version.z;
            weight = weight.bs;
            rest = drop used text;
            ok = record { named = called.is; major = version.major; minor = version.minor; patch = version.patch; weighed = number_is weight.is };
            whole = spelled ∙ sym (entry_spelled called.bs version.x version.y version.z weight.bs (drop used text));
            ends = end;
            of_name = omega (arith, called.size);
            of_major = version.of_major;
            of_minor = version.of_minor;
            of_patch = version.of_patch;
            of_weight = sym weight.is.worth;
            used = omega (arith, entry_size called.bs version.x version.y version.z weight.bs, called.size, version.used, weight.size);
          }
        where
          used : ℕ
          used = n + 1 + r.used + k + 1

          comma : drop (n + 1 + r.used + k) text ≡ 44 ∷ drop used text
          comma = b.1 ∙ ap (λ (t : List ℕ). 44 ∷ t) (after_word (bytes ",") b refl ∙ past text (n + 1 + r.used + k) 1 used refl)

          spelled : text ≡ called.bs ++ (44 ∷ dotted version.x version.y version.z (weight.bs ++ (44 ∷ (44 ∷ drop used text))))
          spelled =
              cc (
                called.whole,
                version.whole,
                version_rest version,
                past text (n + 1) r.used (n + 1 + r.used) refl,
                weight.whole,
                past text (n + 1 + r.used) k (n + 1 + r.used + k) refl,
                comma,
              )

-- a slot's line, with what follows it
slot_spelled : (name constraint s : List ℕ) → written (slot name constraint) ++ s ≡ bytes ",,," ++ (name ++ (44 ∷ (constraint ++ s)))
slot_spelled name constraint s = simp append_assoc

pub slot_size : (name constraint : List ℕ) → length (written (slot name constraint)) ≡ 3 + length name + 1 + length constraint
slot_size name constraint = simp length-append (omega arith)

no_slot : {text : List ℕ}
    → ((name constraint s : List ℕ) → SlotLine name constraint → AtEnd s → ¬ (text ≡ bytes ",,," ++ (name ++ (44 ∷ (constraint ++ s)))))
    → NoLine IsSlot text
no_slot never (slot name constraint) k ok s u e = never name constraint s ok u (e ∙ slot_spelled name constraint s)
no_slot never (entry name x y z _) k ok s u e = k

-- a field ends where a record may
field_stops : (s : List ℕ) → AtEnd s → Stops FieldByte s
field_stops s (inl e) = rw e tt
field_stops s (inr b) = rw b.1 (λ f. f.no_cr refl)

pub slot_no_commas : {text : List ℕ} → ¬ Begins (bytes ",,,") text → NoLine IsSlot text
slot_no_commas other = no_slot (λ name constraint s ok u e. other (name ++ (44 ∷ (constraint ++ s)), e))

to_name : {text t : List ℕ} → text ≡ bytes ",,," ++ t → drop 3 text ≡ t
to_name {text} {t} e = sym (after_word (bytes ",,,") {text = text} (t, e) refl)

pub slot_no_name : {text : List ℕ} → NoField Name 44 (drop 3 text) → NoLine IsSlot text
slot_no_name never = no_slot (λ name constraint s ok u e. never name _ ok.named (to_name e))

-- the fields of a slot, one after the other
module _ {text : List ℕ} (opened : Begins (bytes ",,,") text) {n : ℕ} (named : FieldFound Name 44 (drop 3 text) n)
    {k : ℕ} (run : Run FieldByte (drop (3 + n + 1) text) k) where
  wanted : Has Name 44 (drop 3 text) (n + 1)
  wanted = has_name named

  to_field : {name t : List ℕ} → Name name → text ≡ bytes ",,," ++ (name ++ (44 ∷ t)) → drop (3 + n + 1) text ≡ t
  to_field q e = sym (past text 3 (n + 1) (3 + n + 1) (omega arith)) ∙ after_name wanted q (to_name e)

  field_is : {name constraint s : List ℕ} → SlotLine name constraint → AtEnd s → text ≡ bytes ",,," ++ (name ++ (44 ∷ (constraint ++ s)))
      → (take k (drop (3 + n + 1) text) ≡ constraint) × (drop k (drop (3 + n + 1) text) ≡ s)
  field_is {name} {constraint} {s} ok u e =
      run_stops FieldByte (take k (drop (3 + n + 1) text)) constraint (drop k (drop (3 + n + 1) text)) s run.each ok.plain
      (stops_there (drop (3 + n + 1) text) k run) (field_stops s u) (take-append-drop k (drop (3 + n + 1) text) ∙ to_field ok.named e)

  pub slot_no_field : k ≡ 0 → NoLine IsSlot text
  slot_no_field z =
      no_slot (λ name constraint s ok u e. omega (arith, ok.filled, ap length (field_is ok u e).0, length-take-le k (drop (3 + n + 1) text) run.within))

  pub slot_no_end : ¬ AtEnd (drop (3 + n + 1 + k) text) → NoLine IsSlot text
  slot_no_end other =
      no_slot (λ name constraint s ok u e. other (rw (past_both text (3 + n + 1) k (field_is ok u e).1) u))

  pub slot_there : ¬ (k ≡ 0) → AtEnd (drop (3 + n + 1 + k) text) → SlotFound text (record { name = n; constraint = k; used = 3 + n + 1 + k })
  slot_there plain end =
      record {
        name = wanted.bs;
        constraint = take k (drop (3 + n + 1) text);
        rest = drop (3 + n + 1 + k) text;
        ok = record { named = wanted.is; filled = omega (arith, long); plain = run.each };
        whole = spelled ∙ sym (slot_spelled wanted.bs (take k (drop (3 + n + 1) text)) (drop (3 + n + 1 + k) text));
        ends = end;
        of_name = omega (arith, wanted.size);
        of_constraint = sym long;
        used = omega (arith, slot_size wanted.bs (take k (drop (3 + n + 1) text)), wanted.size, long);
      }
    where
      long : length (take k (drop (3 + n + 1) text)) ≡ k
      long = length-take-le k (drop (3 + n + 1) text) run.within

      spelled : text ≡ bytes ",,," ++ (wanted.bs ++ (44 ∷ (take k (drop (3 + n + 1) text) ++ drop (3 + n + 1 + k) text)))
      spelled =
          cc (
            opened.1,
            after_word (bytes ",,,") opened refl,
            wanted.whole,
            past text 3 (n + 1) (3 + n + 1) (omega arith),
            take-append-drop k (drop (3 + n + 1) text),
            past text (3 + n + 1) k (3 + n + 1 + k) refl,
          )
