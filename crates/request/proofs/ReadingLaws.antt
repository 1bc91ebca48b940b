-- What reading a request gives, by the answers of stages 2 and 3. Assumes nothing.
use mathlib.Core.Path.{◌≡◌, refl, sym, ap, ap₂, subst, ◌∙◌}
use Prim.Native.Nat.{ℕ, ◌*◌, ◌-◌, ◌≤◌}
use native.Mathlib.Omega.{arith}
use mathlib.Core.Bool.{Bool, true, false, ◌||◌}
use mathlib.Core.Logic.{◌⊎◌, inl, inr}
use mathlib.Core.List.{List, []}
use lib.ListN.{length, take, drop, length-drop}
use lib.Dec.{eqb}
use Rattle.octets.specs.Choice.{pick}
use Rattle.octets.specs.Octets.{slices}
use Rattle.octets.specs.Lists.{any, keep, collect}
use Rattle.octets.proofs.Put.{part_from}
use Rattle.rules.specs.Message.{body_place, elements, header_length, body, kind_of, frame_fault, establishment}
use Rattle.rules.specs.Request as rules
use Rattle.rules.specs.Reading.{Reading, faulty, done, and_then, alone_in, elements_read, finished, session_read, top_read, read}
use Rattle.rules.specs.Request.{Request, empty_draft}
use Rattle.laws.proofs.CsidLaws.{only_clear}
use Rattle.plan.specs.Rows.{row_width, rows_of, tagged, row_csid, is_null_row}
use Rattle.rules.specs.Types as ie
use Rattle.rules.specs.Causes as why
use Rattle.frame.specs.Framed.{framing_fault}
use Rattle.reading.specs.Verdicts.{stopped, numbered, fault, framing}
use Rattle.frame.specs.HeaderOf.{SessionHeader}
use Rattle.request.specs.Items.{Enough, AllRead, plan_of, concluded}
use Rattle.request.specs.Requests.{RoomFor, refused, result_of, from_framing, reading_of, meant, rows_left, Read}
use Rattle.request.specs.declared.items.Draft.{Draft}
use Rattle.request.proofs.PlanLaws.{csids_same, nulls_same}
use Rattle.request.proofs.TurnLaws.{concluded_same}
use Rattle.std.specs.Prelude.{Result, Ok, Err}
use Rattle.reading.specs.declared.Fault.{Fault}
use Rattle.request.specs.declared.Plan.{Plan}
use Rattle.frame.specs.declared.Spot.{Spot}

-- no rows, no null FQ-CSID among them
no_rows : (words : List ℕ) {X : Type 0} → any is_null_row (tagged ie.fqcsid (rows_of 0 words)) ≡ true → X
unfolding any tagged keep slices
no_rows words h = let z : ◌≡◌ {A = ℕ} 0 1 = cc in absurd (omega arith)

-- a refusal leaves no rows
refused_whole : {msg words : List ℕ} {c t p : ℕ} → refused c t p ≡ reading_of msg → Read msg (fault c t p) words
refused_whole {words = words} h = record { result = h; room = omega arith; only_null = λ e. no_rows words e }

pub not_framed : (msg : List ℕ) {words : List ℕ} (f : Result (Unit {0}) Spot) → framing_fault f ≡ frame_fault msg → (x : Spot) → f ≡ Err x → Read msg (Err (framing x)) words
unfolding reading_of from_framing
not_framed msg f framed x h = refused_whole (ap (from_framing msg) (sym (ap framing_fault h) ∙ framed))

module _ (msg : List ℕ) (head : SessionHeader msg) where
  abbrev tail : List ℕ
  tail = take (length msg - 16) (drop 16 msg)

  tail_long : length (take (length msg - 16) (drop 16 msg)) ≡ length msg - 16
  tail_long = ap length (part_from 16 msg) ∙ length-drop 16 msg

  tail_short : length msg ≤ 2048 → length (take (length msg - 16) (drop 16 msg)) ≤ 2032
  tail_short h = let long = head.long in omega (arith, tail_long)

  pub message_room : {words : List ℕ} → length msg ≤ 2048 → RoomFor (length msg - 16) words → Enough (take (length msg - 16) (drop 16 msg)) words
  message_room {words} short room = record { short = tail_short short; row = subst (λ (n : ℕ). RoomFor n words) (sym tail_long) room }

  module _ {k : ℕ} (kind : k ≡ kind_of msg) where
    abbrev drafted : Reading rules.Draft
    drafted = elements_read k (alone_in (elements body_place tail)) (elements body_place tail) empty_draft

    -- the header has a SEID, so its elements start at octet 16
    placed : elements (header_length msg) (body msg) ≡ elements body_place tail
    unfolding header_length body
    placed = ap (λ (b : Bool). elements (pick b 16 8) (drop (pick b 16 8) msg)) head.seid ∙ ap (elements body_place) (sym (part_from 16 msg))

    read_is : read msg ≡ and_then drafted (finished k)
    unfolding read top_read session_read
    read_is = rw head.kind (ap₂ session_read (sym kind) placed)

    module _ {words : List ℕ} (r : Result Draft Fault) (all : AllRead (elements_read k (alone_in (elements body_place (take (length msg - 16) (drop 16 msg)))) (elements body_place (take (length msg - 16) (drop 16 msg))) empty_draft) r words) where
      stopped_read : (f : Fault) → r ≡ Err f → refused f.cause f.kind f.place ≡ result_of (read msg)
      stopped_read f q = go drafted (all.fault f q) ∙ sym (ap (λ (x : Reading Request). result_of x) read_is)
        where
          go : (x : Reading rules.Draft) → numbered x ≡ stopped f.cause f.kind f.place → refused f.cause f.kind f.place ≡ result_of (and_then x (finished k))
          go (faulty g) h = sym cc
          go (done d) h = let z : ◌≡◌ {A = ℕ} 0 1 = cc in absurd (omega arith)

      module _ (f : Result (Unit {0}) Spot) (framed : framing_fault f ≡ frame_fault msg) (fine : f ≡ Ok tt) where
        by_reading : reading_of msg ≡ result_of (read msg)
        unfolding reading_of from_framing
        by_reading = ap (from_framing msg) (sym (sym (ap framing_fault fine) ∙ framed))

        pub read_refused : {exit : List ℕ} (g : Fault) → r ≡ Err g → Read msg (Err g) exit
        read_refused g q = refused_whole (stopped_read g q ∙ sym by_reading)

        pub read_whole : (d : Draft) → r ≡ Ok d → {q : Result Plan Fault} → q ≡ concluded k d → Read msg q words
        read_whole d e {q} h =
            let w = all.next d e in
            let m = w.read.means in
            let same : meant (concluded k d) words ≡ reading_of msg =
            concluded_same m k ∙ ap (λ (x : Reading rules.Draft). result_of (and_then x (finished k))) (sym w.read.is) ∙ sym (ap (λ (x : Reading Request). result_of x) read_is) ∙ sym by_reading in
            let alone : any is_null_row (tagged ie.fqcsid (rows_of d.rows words)) ≡ true → collect row_csid (tagged ie.fqcsid (rows_of d.rows words)) ≡ [] =
            λ n. csids_same m ∙ only_clear k (elements body_place tail) w.read.draft w.read.is (sym (nulls_same m) ∙ n) in
            rw h (by_plan d w.room alone (concluded k d) (planned d) same)
          where
            -- all of the rows, or none
            planned : (d : Draft) → (rows_left (concluded k d) ≡ d.rows) ⊎ (rows_left (concluded k d) ≡ 0)
            planned d = unfold concluded in (go (eqb k establishment) (eqb d.flags 2 || d.creates) (eqb d.seid 0))
              where
                go : (a b e : Bool) → (rows_left (pick a (pick b (pick e (fault why.mandatory_missing ie.fseid 0) (Ok (plan_of d d.seid))) (fault why.mandatory_missing ie.create_pdr 0)) (Ok (plan_of d 0))) ≡ d.rows)
                    ⊎ (rows_left (pick a (pick b (pick e (fault why.mandatory_missing ie.fseid 0) (Ok (plan_of d d.seid))) (fault why.mandatory_missing ie.create_pdr 0)) (Ok (plan_of d 0))) ≡ 0)
                go true true true = inr refl
                go true true false = inl refl
                go true false e = inr refl
                go false b e = inl refl

            by_plan : (d : Draft) → row_width * d.rows ≤ length words → (any is_null_row (tagged ie.fqcsid (rows_of d.rows words)) ≡ true → collect row_csid (tagged ie.fqcsid (rows_of d.rows words)) ≡ [])
                → (q : Result Plan Fault) → (rows_left q ≡ d.rows) ⊎ (rows_left q ≡ 0) → meant q words ≡ reading_of msg → Read msg q words
            by_plan d room alone q (inl n) s = record { result = s; room = omega arith; only_null = subst (λ (i : ℕ). any is_null_row (tagged ie.fqcsid (rows_of i words)) ≡ true → collect row_csid (tagged ie.fqcsid (rows_of i words)) ≡ []) (sym n) alone }
            by_plan d room alone q (inr n) s = record { result = s; room = omega arith; only_null = subst (λ (i : ℕ). any is_null_row (tagged ie.fqcsid (rows_of i words)) ≡ true → collect row_csid (tagged ie.fqcsid (rows_of i words)) ≡ []) (sym n) (λ e. no_rows words e) }
