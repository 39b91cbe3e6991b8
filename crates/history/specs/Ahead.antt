-- The records of the head's sector that a sweep still has before it (Ahead), and one move of them: it leaves one less ahead.
use Rattle.std.specs.Prelude.{ℕ, suc, ◌+◌, ◌≡◌, refl, Bool, true, false, List, [], ◌∷◌, ◌++◌, map, length}
use Rattle.std.proofs.Common.{arith, sym, ap, ap₂, ◌∙◌, subst, append_assoc}
use Rattle.std.proofs.Math.Option.{some}
use Rattle.spec.specs.declared.Ending.{Ending}
use Rattle.spec.specs.declared.Place.{Place}
use Rattle.spec.specs.Step.{Image, Step, program, run}
use Rattle.spec.specs.Basics.{Each, keep}
use Rattle.spec.specs.Geometry.{floor}
use Rattle.spec.specs.Record.{Entry, name_of, content_of, size}
use Rattle.spec.specs.Chain.{Reading, read, reading_from}
use Rattle.spec.specs.Files.{live}
use Rattle.spec.specs.Place.{fits, fits_all, place_after, address}
use Rattle.spec.specs.Write.{put_steps}
use Rattle.spec.specs.Move.{Work, begin, reread, close_steps, moved_on, move}
use Rattle.spec.specs.History.{Ledger}
use Rattle.laws.specs.Lists.{keep_yes, keep_no, each_map}
use Rattle.history.specs.Store.{alive, live_alive}
use Rattle.history.specs.Kinds.{Ok, Rested}
use Rattle.history.specs.Settled.{after_some}
use Rattle.history.specs.Vacant.{relow_alive, relowed}
use Rattle.history.specs.PutOld.{gone, gone_dead}
use Rattle.history.specs.Places.{all_fit, fits_all_is, Some, lands_fit, fit_first, fit_next}
use Rattle.history.specs.Put.{file}
use Rattle.history.specs.Copying.{copy_some, copied}
use Rattle.history.specs.Landing.{AfterPut, replaced_after, put_length, handed_reads, handed_length}
use Rattle.history.specs.Sweeps.{two_on, move_by}
use Rattle.laws.specs.Sweep.{copy_live, copy_dead}
use Rattle.laws.specs.Settled.{after_idle}

-- ---- what is ahead

-- e begins in the sector of h
abbrev pub There : ℕ → Entry → Type 0
There h e = floor e.at ≡ floor h

-- the sizes of the live ones
abbrev pub live_sizes : List Entry → List ℕ
live_sizes es = map size (keep alive es)

-- the first j records begin in the head's sector, and the live ones of them fit one after another
pub record Ahead (j : ℕ) (r : Reading) : Type 0 where
  pub front : List Entry
  pub rest : List Entry
  pub is : r.entries ≡ front ++ rest
  pub count : length front ≡ j
  pub there : Each (There r.place.head) front
  pub room : fits_all r.place (live_sizes front) ≡ true

pub none_ahead : (r : Reading) → Ahead 0 r
unfolding fits_all
none_ahead r = record { front = []; rest = r.entries; is = refl; count = refl; there = tt; room = refl }

sizes_some : (es : List Entry) → Each Some (map size es)
sizes_some [] = tt
sizes_some (e ∷ es) = (omega arith, sizes_some es)

relow_sizes : (y : Entry) (es : List Entry) → live_sizes (relowed 0 y ∷ es) ≡ live_sizes (y ∷ es)
relow_sizes y es = go (alive y) refl
  where
    go : (b : Bool) → alive y ≡ b → live_sizes (relowed 0 y ∷ es) ≡ live_sizes (y ∷ es)
    go true e = ap (map size) (keep_yes alive (relowed 0 y) es (relow_alive y 0 ∙ e)) ∙ sym (ap (map size) (keep_yes alive y es e))
    go false e = ap (map size) (keep_no alive (relowed 0 y) es (relow_alive y 0 ∙ e)) ∙ sym (ap (map size) (keep_no alive y es e))

-- ---- steps (b) to (f): Y is the head

module _ {l : Ledger} (w : Work) (q : Rested l w.image w.reading) (x y : Entry) (front rest : List Entry)
    (i : q.es ≡ x ∷ y ∷ (front ++ rest)) (dead : alive x ≡ false) (there : Each (There q.h) (y ∷ front)) where
  abbrev hs : ℕ → List Step
  hs N = program y.at 0xA0 ∷ close_steps N x y 0xA0

  handed_is : (moved_on w).reading ≡ read (length w.image) y.at q.S q.t (relowed 0 y ∷ (front ++ rest)) Ending.Tail
  handed_is =
      ap (λ (v : Work). v.reading) (two_on w x y (front ++ rest) (ap (λ (r : Reading). r.entries) q.is ∙ i))
      ∙ ap (λ (N : ℕ). reading_from (run w.image (hs N)) y.at) (ap (λ (r : Reading). r.place.length) q.is)
      ∙ handed_reads q x y (front ++ rest) i dead there.0
      ∙ ap (λ (N : ℕ). read N y.at q.S q.t (relowed 0 y ∷ (front ++ rest)) Ending.Tail)
      (handed_length q x y (front ++ rest) i dead there.0)

  hand_ahead : all_fit (floor q.h) (length w.image) q.S q.t (live_sizes (y ∷ front)) ≡ true
      → Ahead (suc (length front)) (moved_on w).reading
  hand_ahead f =
      subst (Ahead (suc (length front))) (sym handed_is)
      (record {
        front = relowed 0 y ∷ front;
        rest = rest;
        is = refl;
        count = refl;
        there = (refl, each_map front (λ e h. h ∙ sym there.0) there.1);
        room =
            fits_all_is (record { head = y.at; tail = q.S; turned = q.t; length = length w.image }) (live_sizes (relowed 0 y ∷ front))
            ∙ ap₂ (λ (k : ℕ) (ss : List ℕ). all_fit k (length w.image) q.S q.t ss) there.0 (relow_sizes y front) ∙ f;
      })

-- ---- the move

-- on a rested image the live records are those that are alive
pub rest_ok : {l : Ledger} (x : Entry) (es : List Entry) → Ok (x ∷ es) l → live (x ∷ es) x ≡ alive x
rest_ok x es o = (live_alive (x ∷ es) o.unique).0

after_all : (p : Place) (s : ℕ) (ss : List ℕ) → fits_all (place_after p s) ss
    ≡ all_fit (floor p.head) p.length (address p s + s) (place_after p s).turned ss
unfolding place_after
after_all p s ss = fits_all_is (place_after p s) ss

-- what fits behind a size that was placed fits where the image is then read to end
pub led_room : {J : Image} {h s : ℕ} {p : Place} {fs : List Entry} (led : AfterPut J h p s fs) → p.head ≡ h → p.length ≡ length J
    → (es : List Entry) → fits_all (place_after p s) (live_sizes es) ≡ true
    → all_fit (floor h) (length J) led.T led.u (live_sizes es) ≡ true
led_room {J} {h} {s} {p} led hd len es f =
    let ss : List ℕ = live_sizes es in
    sym (lands_fit (floor h) ss led.lands (sizes_some (keep alive es)))
    ∙ ap₂ (λ (i N : ℕ). all_fit (floor i) N (address p s + s) (place_after p s).turned ss) (sym hd) (sym len) ∙ sym (after_all p s ss) ∙ f

module _ {l : Ledger} {im : Image} {r : Reading} (q : Rested l im r) (x y : Entry) (front rest : List Entry)
    (i : q.es ≡ x ∷ y ∷ (front ++ rest)) (there : Each (There q.h) (y ∷ front)) where
  abbrev es : List Entry
  es = y ∷ (front ++ rest)

  ok : Ok (x ∷ es) l
  ok = subst (λ (fs : List Entry). Ok fs l) i q.ok

  entries_is : r.entries ≡ x ∷ es
  entries_is = ap (λ (y : Reading). y.entries) q.is ∙ i

  head_is : r.place.head ≡ q.h
  head_is = ap (λ (y : Reading). y.place.head) q.is

  length_is : r.place.length ≡ length im
  length_is = ap (λ (y : Reading). y.place.length) q.is

  -- a dead head
  pub dead_ahead : alive x ≡ false → fits_all r.place (live_sizes (y ∷ front)) ≡ true
      → Ahead (suc (length front)) (move (begin im r)).reading
  dead_ahead a f =
      subst (λ (w : Work). Ahead (suc (length front)) w.reading)
      (sym (move_by im r (x ∷ es) [] (begin im r) entries_is (copy_dead r x es refl (rest_ok x es ok ∙ a))
      (after_idle (begin im r) r.place.head [] refl)))
      (hand_ahead (begin im r) q x y front rest i a there
      (sym (ap (λ (p : Place). all_fit (floor p.head) p.length p.tail p.turned (live_sizes (y ∷ front)))
      (ap (λ (y : Reading). y.place) q.is))
      ∙ sym (fits_all_is r.place (live_sizes (y ∷ front))) ∙ f))

  -- a live one
  pub live_ahead : alive x ≡ true → fits_all r.place (size x ∷ live_sizes (y ∷ front)) ≡ true
      → Ahead (suc (length front)) (move (begin im r)).reading
  live_ahead a f =
      let n : List ℕ = name_of x in
      let c : List ℕ = content_of x in
      let ss : List Step = put_steps r.place (some x) n c in
      let J : Image = run im ss in
      let room : fits r.place (size x) ≡ true = fit_first r.place (size x) (live_sizes (y ∷ front)) f in
      let w : Work = reread (begin im r) ss J r.place.head in
      let p : Rested l J (reading_from J r.place.head) = (copied q x es i a room).0 in
      let new : Entry = record { at = address r.place (size x); it = file n c } in
      let led : AfterPut J q.h r.place (size x) (gone x ∷ (es ++ (new ∷ []))) =
      replaced_after q n c (ok.well_named.0 a) (ok.bytes.0 a) room [] es x i a refl in
      let R : read (length J) p.h p.S p.t p.es Ending.Tail
      ≡ read (length J) q.h led.T led.u (gone x ∷ (es ++ (new ∷ []))) Ending.Tail =
      sym p.is ∙ ap (reading_from J) head_is ∙ led.reads in
      let k : p.h ≡ q.h = ap (λ (y : Reading). y.place.head) R in
      let j : p.es ≡ gone x ∷ y ∷ (front ++ (rest ++ (new ∷ []))) =
      ap (λ (y : Reading). y.entries) R ∙ ap (λ (fs : List Entry). gone x ∷ y ∷ fs) (append_assoc front rest (new ∷ [])) in
      let t : Each (There p.h) (y ∷ front) = subst (λ (h : ℕ). Each (There h) (y ∷ front)) (sym k) there in
      let e₁ : all_fit (floor q.h) (length J) led.T led.u (live_sizes (y ∷ front)) ≡ true =
      led_room led head_is (length_is ∙ sym (put_length im r.place (some x) n c)) (y ∷ front)
      (fit_next r.place (size x) (live_sizes (y ∷ front)) f) in
      let e₂ : all_fit (floor p.h) (length J) p.S p.t (live_sizes (y ∷ front)) ≡ true =
      ap (λ (z : Reading). all_fit (floor z.place.head) (length J) z.place.tail z.place.turned (live_sizes (y ∷ front))) R
      ∙ e₁ in
      subst (λ (v : Work). Ahead (suc (length front)) v.reading)
      (sym (move_by im r (x ∷ es) ss w entries_is (copy_live r x es refl (rest_ok x es ok ∙ a))
      (after_some (begin im r) ss r.place.head (copy_some q x es i a room))))
      (hand_ahead w p (gone x) y front (rest ++ (new ∷ [])) j (gone_dead x) t e₂)
