-- A mount planned: its repairs one after another, and its report, as a survey of the unchanged image tells them.
use Prim.Native.Nat.{ℕ}
use Rattle.std.proofs.Common.{arith, subst, ◌∙◌}
use Rattle.std.specs.Prelude.{◌≡◌, refl, Bool, true, false, length}
use Rattle.std.proofs.Math.Path.{sym, ap, ap₂}
use mathlib.Core.List.{List, [], ◌∷◌, ◌++◌, append_assoc}
use Rattle.spec.specs.declared.Place.{Place}
use Rattle.spec.specs.Step.{Image, Step}
use Rattle.spec.specs.Basics.{Each}
use Rattle.spec.specs.Record.{Entry}
use Rattle.spec.specs.Chain.{Reading}
use Rattle.spec.specs.Files.{files}
use Rattle.spec.specs.Reading.{marks_ok}
use Rattle.spec.specs.Answers.{report_of}
use Rattle.laws.specs.Settled.{second_marked}
use Rattle.planning.specs.Repairs.{steps_1, steps_2, steps_3}
use Rattle.planning.specs.Planned.{led_place, planned_mend, mended_reading}
use Rattle.planning.specs.Told.{behind, behind_place, last_told, drops_told, place_told, files_told}
use Rattle.chain.specs.declared.Item.{Item}
use Rattle.chain.specs.declared.Tally.{Tally}
use Rattle.reading.specs.declared.Survey.{Survey}
use Rattle.chain.specs.Rest.{entry_of, rest}
use Rattle.reading.specs.Bridge.{shown, reading_is}
use Rattle.reading.specs.Ends.{Closes, rest_closes}
use Rattle.chain.specs.Faithful.{Stands, faithful}
use Rattle.chain.specs.Tally.{none_yet, tally}
use Rattle.chain.specs.TallyLaws.{second_is}
use Rattle.reading.specs.Read.{first_cursor, reading_of, Surveyed}
use Rattle.reading.specs.Survey.{TornInside}
use Rattle.reading.specs.Accepted.{Accepted}
use Rattle.recovery.specs.Drop.{dropped}
use Rattle.window.specs.declared.Emitter.{Emitter}
use Rattle.window.specs.Handed.{Handed}
use Rattle.planner.specs.Superseded.{without_first, behind_is}

-- ---- repair 4, with the cursors that the code has

pub drops_handed : {w r : Emitter} {all es own : List Entry} {b : Bool} → all ≡ own → es ≡ without_first b all
    → b ≡ second_marked own → Handed w (dropped all es) r → Handed w (dropped own (behind own)) r
drops_handed {w} {r} {own = own} {b = b} e f g h =
    subst (λ (ss : List Step). Handed w ss r) (ap₂ dropped e (f ∙ ap (without_first b) e ∙ behind_is own g)) h

-- ---- all four

module _ {im : Image} {v : Survey} (w : Surveyed im v) (m : marks_ok (reading_of im v).entries ≡ true) where
  abbrev r : Reading
  r = reading_of im v

  pub mend_is : (steps_1 im r ++ steps_2 (length im) r.entries) ++ (steps_3 im r ++ dropped r.entries (behind r.entries))
      ≡ planned_mend im r
  unfolding planned_mend
  mend_is =
      let head : ℕ → List Step = λ n. steps_1 im r ++ steps_2 n r.entries in
      sym (append_assoc (head (length im)) (steps_3 im r) (dropped r.entries (behind r.entries)))
      ∙ ap (λ (n : ℕ). (head n ++ steps_3 im r) ++ dropped r.entries (behind r.entries)) (sym w.place.whole)
      ∙ ap₂ (λ (a b : List Step). (head v.place.length ++ a) ++ b) (sym (last_told im r)) (sym (drops_told r m))

-- ---- a torn wrap has all its bytes

module _ (im : Image) (s : Survey) (w : Accepted im s) where
  torn_shown : (x : Item) → Closes im (first_cursor im s.place.head) x
      → TornInside (length im) (shown im (length im) s.place.head (rest im (first_cursor im s.place.head)).entries x).ending
  torn_shown (Item.Record e c) o = tt
  torn_shown (Item.End t u) o = tt
  torn_shown (Item.TornWrap t) o = o
  torn_shown (Item.Broken t u) o = tt

  pub torn_told : TornInside (length im) s.ending
  torn_told =
      let c = first_cursor im s.place.head in
      let e : shown im (length im) s.place.head (rest im c).entries (rest im c).ending ≡ reading_of im s =
      reading_is im s.place.head w.surveyed.place.head ∙ sym w.same in
      subst (λ (q : Reading). TornInside (length im) q.ending) e (torn_shown (rest im c).ending (rest_closes im c))

-- ---- the report

led_is : (im : Image) (p : Place) (es : List Entry) (t : Tally) → t ≡ tally none_yet es → Each (Stands im) es → second_marked es ≡ true
    → led_place p t.second.at ≡ behind_place p es
unfolding behind_place
led_is im p [] t q f m = absurd (let z : ◌≡◌ {A = ℕ} 0 1 = cc in omega arith)
led_is im p (x ∷ []) t q f m = absurd (let z : ◌≡◌ {A = ℕ} 0 1 = cc in omega arith)
led_is im p (x ∷ (y ∷ es)) t q f m =
    let b : entry_of im t.second ≡ y = ap (λ (u : Tally). entry_of im u.second) q ∙ ap (entry_of im) (second_is x y es) ∙ f.1.0 in
    rw (behind_place, m) (ap (λ (e : Entry). led_place p e.at) b)

stays_is : (p : Place) (es : List Entry) → second_marked es ≡ false → p ≡ behind_place p es
unfolding behind_place
stays_is p [] m = refl
stays_is p (x ∷ []) m = refl
stays_is p (x ∷ (y ∷ es)) m = rw (behind_place, m)

module _ {im : Image} {v : Survey} (w : Surveyed im v) where
  pub place_led : second_marked (reading_of im v).entries ≡ true
      → led_place v.place v.tally.second.at ≡ behind_place v.place (reading_of im v).entries
  place_led m =
      led_is im v.place (reading_of im v).entries v.tally w.tallied.same
      (faithful im (first_cursor im v.place.head) w.tallied.sound) m

  pub place_stays : second_marked (reading_of im v).entries ≡ false → v.place ≡ behind_place v.place (reading_of im v).entries
  place_stays m = stays_is v.place (reading_of im v).entries m

pub report_told : {p : Place} {n : ℕ} (r : Reading) → marks_ok r.entries ≡ true → p ≡ behind_place r.place r.entries
    → n ≡ length (files r.entries) → record { head = p.head; tail = p.tail; files = n } ≡ report_of (mended_reading r)
report_told r m e f =
    ap₂ (λ (q : Place) (k : ℕ). record { head = q.head; tail = q.tail; files = k }) (e ∙ sym (place_told r)) (f ∙ sym (files_told r m))
