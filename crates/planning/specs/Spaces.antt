-- Request K3's theorem over the calls: on every image, what mount, put and sweep leave at answer 0 has its four numbers sum to N; and the
-- first reading alone tells them.
use Rattle.std.specs.Prelude.{ℕ, zero, suc, ◌≤◌, min, ◌≡◌, refl, Bool, true, false, not, List, [], ◌∷◌, length}
use Rattle.std.proofs.Common.{arith, sym, ap, ap₂, ◌∙◌, subst}
use Rattle.spec.specs.declared.Ending.{Ending}
use Rattle.spec.specs.Step.{Image, Step, run}
use Rattle.spec.specs.Basics.{Answer, give, numbered, concat}
use Rattle.spec.specs.Geometry.{good_length}
use Rattle.spec.specs.Record.{size_of, name_ok}
use Rattle.spec.specs.Chain.{Reading, reading_from}
use Rattle.spec.specs.Reading.{reading}
use Rattle.spec.specs.Files.{file_named}
use Rattle.spec.specs.Place.{room}
use Rattle.spec.specs.Write.{put_steps}
use Rattle.spec.specs.Move.{Work, begin, after}
use Rattle.spec.specs.Mount.{mended}
use Rattle.spec.specs.Sweep.{no_room, stuck, moves, sweep_moves}
use Rattle.spec.specs.Door.{accepted, admitted, admitted_named}
use Rattle.spec.specs.Numbers.{of_mount}
use Rattle.spec.specs.Answers.{Plan, report_of, mount_work, mount_of, mount_plan, putting, put_into, put_plan, sweeping, sweep_of}
use Rattle.spec.specs.Answers.{sweep_plan}
use Rattle.spec.specs.declared.Space.{Space}
use Rattle.spec.specs.Space.{space_by, space_of, space_left, put_work, swept, sweep_work}
use Rattle.laws.specs.Length.{Good, good}
use Rattle.laws.specs.Answer.{gave, passed, given_is}
use Rattle.laws.specs.Door.{settled_gives, accepted_gives, admitted_gives, named_gives}
use Rattle.laws.specs.Steps.{run_append}
use Rattle.planning.specs.Planned.{move_steps, moved_reading, planned_mend, mended_reading}
use Rattle.planning.specs.Places.{copied_head}
use Rattle.planning.specs.Rested.{Rested, rested_reading, settled_rested}
use Rattle.planning.specs.Moves.{Move, moved}
use Rattle.planning.specs.Mends.{mended_as_planned, mended_reads_planned, mended_image, mended_left}
use Rattle.planning.specs.Puts.{put_left, put_length, put_rested}
use Rattle.planning.specs.Space.{total, marker_told, space_told, space_sum}

-- ---- what is read of the image that each call leaves, from the first reading

-- the first of at most k moves, and so on
unfoldable pub swept_reading : ℕ → Reading → Reading
swept_reading zero r = r
swept_reading (suc k) r = elim (stuck r) [ true ↦ r | false ↦ swept_reading k (moved_reading r) ]

-- the calls that give the record back
pub data Telling : Type 0 where
  mount : Telling
  put : List ℕ → List ℕ → Telling
  sweep : Telling

abbrev pub left_reading : Telling → Reading → Reading
left_reading mount r = mended_reading r
left_reading (put name content) r = put_left name content r
left_reading sweep r = swept_reading (min 5 (length r.entries)) r

-- the four numbers, from a reading alone
abbrev pub space_read : Reading → Space
space_read r = space_by r (marker_told r)

-- ---- one work

-- the work w on the image im left this reading
pub record Leaves (im : Image) (ss : List Step) (r : Reading) (w : Work) : Type 0 where
  pub image : w.image ≡ run im ss
  pub told : space_left w ≡ space_read r
  pub sum : total (space_left w) ≡ length im

rested_leaves : {im : Image} {ss : List Step} {r : Reading} {w : Work} → length (run im ss) ≡ length im → Rested (run im ss) r
    → w.image ≡ run im ss → w.reading.place.head ≡ r.place.head → Leaves im ss r w
unfolding space_left
rested_leaves {im} {ss} {r} {w} len v i h =
    let at : space_left w ≡ space_of (run im ss) r.place.head = ap₂ space_of i h in
    let inside : r.place.head ≤ length (run im ss) = omega (arith, v.inside) in
    record {
      image = i;
      told = at ∙ space_told inside v.reads v.tail;
      sum = ap total at ∙ space_sum inside v.reads v.tail ∙ len;
    }

-- ---- mount

pub mount_leaves : (im : Image) (r : Reading) (n : good_length (length im) ≡ true) (e : reading im ≡ give r)
    → Leaves im (mended im r).steps (mended_reading r) (mended im r)
unfolding mended_reading space_left
mount_leaves im r n e =
    let left = mended_left im r n e in
    let is : (mended im r).reading ≡ mended_reading r = mended_reads_planned im r n e in
    let tail : (mended im r).reading.ending ≡ Ending.Tail = ap (λ (s : Reading). s.ending) is in
    let inside : (mended im r).reading.place.head ≤ length (mended im r).image = omega (arith, left.0, left.1) in
    record {
      image = mended_image im r n e;
      told = space_told inside left.2 tail ∙ ap space_read is;
      sum = space_sum inside left.2 tail ∙ left.0;
    }

-- so mount's plan, from the first reading: its steps, h, T, the count of live files and the record
pub mount_as_planned : (im : Image) (r : Reading) → good_length (length im) ≡ true → reading im ≡ give r
    → mount_of im r
    ≡ give (record {
      steps = planned_mend im r;
      moves = [];
      done = of_mount 0 (report_of (mended_reading r)) (space_read (mended_reading r)) (length (planned_mend im r));
    })
mount_as_planned im r n e =
    let ss = mended_as_planned im r n e in
    let is = mended_reads_planned im r n e in
    let told = (mount_leaves im r n e).told in
    λ i. give (record { steps = ss i; moves = []; done = of_mount 0 (report_of (is i)) (told i) (length (ss i)) })

-- ---- put

-- a phase that keeps the head
after_left : (w : Work) (ss : List Step) (h : ℕ) → w.reading.place.head ≡ h → (reading_from (run w.image ss) h).place.head ≡ h
    → ((after w ss h).image ≡ run w.image ss) × ((after w ss h).reading.place.head ≡ h)
unfolding after
after_left w [] h a b = (refl, a)
after_left w (s ∷ ss) h a b = (refl, b)

pub put_leaves : (im : Image) (r : Reading) (name content : List ℕ) → Good (length im) → Rested im r → name_ok name ≡ true
    → room r.place name (size_of (length name) (length content)) r.entries ≡ true
    → Leaves im (put_steps r.place (file_named name r.entries) name content) (put_left name content r) (put_work name content im r)
put_leaves im r name content g w n f =
    let ss : List Step = put_steps r.place (file_named name r.entries) name content in
    let len : length (run im ss) ≡ length im = put_length im r name content g w n f in
    let v : Rested (run im ss) (put_left name content r) = put_rested im r name content g w n f in
    let h : (put_left name content r).place.head ≡ r.place.head = (copied_head r.place (size_of (length name) (length content))).0 in
    let at : (reading_from (run im ss) r.place.head).place.head ≡ r.place.head =
    ap (λ (k : ℕ). (reading_from (run im ss) k).place.head) (sym h) ∙ ap (λ (s : Reading). s.place.head) (rested_reading v) ∙ h in
    let a = after_left (begin im r) ss r.place.head refl at in
    rested_leaves len v a.0 (a.1 ∙ sym h)

-- ---- sweep

record Swept (im : Image) (ms : List (List Step)) (r : Reading) (w : Work) : Type 0 where
  image : w.image ≡ run im (concat ms)
  len : length (run im (concat ms)) ≡ length im
  rested : Rested (run im (concat ms)) r
  head : w.reading.place.head ≡ r.place.head

sweeps : (k : ℕ) (im : Image) (r : Reading) → Good (length im) → Rested im r → Swept im (moves k im r) (swept_reading k r) (swept k im r)
unfolding moves swept swept_reading
sweeps zero im r g w = record { image = refl; len = refl; rested = w; head = refl }
sweeps (suc k) im r g w = go _ refl (sweeps k) where
  go : (t : Bool) → stuck r ≡ t
      → ((i : Image) (s : Reading) → Good (length i) → Rested i s → Swept i (moves k i s) (swept_reading k s) (swept k i s))
      → Swept im (moves (suc k) im r) (swept_reading (suc k) r) (swept (suc k) im r)
  go true e ih = rw (moves, swept, swept_reading, e) (record { image = refl; len = refl; rested = w; head = refl })
  go false e ih =
      let m : Move im r = moved im g r w e in
      let i : Image = run im (move_steps r) in
      let s : Swept i (moves k i (moved_reading r)) (swept_reading k (moved_reading r)) (swept k i (moved_reading r)) =
      ih i (moved_reading r) m.good m.rested in
      let on : run im (concat (move_steps r ∷ moves k i (moved_reading r))) ≡ run i (concat (moves k i (moved_reading r))) =
      run_append im (move_steps r) (concat (moves k i (moved_reading r))) in
      let all : Swept im (move_steps r ∷ moves k i (moved_reading r)) (swept_reading k (moved_reading r)) (swept k i (moved_reading r)) =
      record {
        image = s.image ∙ sym on;
        len = ap length on ∙ s.len ∙ m.len;
        rested = subst (λ (j : Image). Rested j (swept_reading k (moved_reading r))) (sym on) s.rested;
        head = s.head;
      } in
      rw (moves, swept, swept_reading, e)
      (subst (λ (v : Work). Swept im (v.steps ∷ moves k v.image v.reading) (swept_reading k (moved_reading r))
      (swept k v.image v.reading))
      (sym m.is) all)

pub sweep_leaves : (im : Image) (r : Reading) → Good (length im) → Rested im r
    → Leaves im (concat (sweep_moves im r)) (left_reading sweep r) (swept (min 5 (length r.entries)) im r)
sweep_leaves im r g w =
    let s = sweeps (min 5 (length r.entries)) im r g w in
    rested_leaves s.len s.rested s.image s.head

-- ---- all three

abbrev pub plan_of : Telling → Image → Answer Plan
plan_of mount im = mount_plan im
plan_of (put name content) im = put_plan name content im
plan_of sweep im = sweep_plan im

-- of a call with the plan p: the record that it gives back is that of the image after its steps, the first reading tells it, and it sums
-- to N
pub record Tells (c : Telling) (im : Image) (p : Plan) : Type 0 where
  pub work : Work
  pub image : work.image ≡ run im p.steps
  pub record_of : p.done.space ≡ space_left work
  pub first : Reading
  pub reads : reading im ≡ give first
  pub told : p.done.space ≡ space_read (left_reading c first)
  pub sum : total p.done.space ≡ length im

tells_by : (c : Telling) (im : Image) (p : Plan) (r : Reading) (w : Work) → reading im ≡ give r → p.done.space ≡ space_left w
    → Leaves im p.steps (left_reading c r) w → Tells c im p
tells_by c im p r w e q v =
    record { work = w; image = v.image; record_of = q; first = r; reads = e; told = q ∙ v.told; sum = ap total q ∙ v.sum }

-- THE theorem: "on the image mount leaves they sum to N", on every image that mount accepts; and on what put and sweep leave
pub tells : (c : Telling) (im : Image) (p : Plan) → plan_of c im ≡ give p → Tells c im p
unfolding mount_plan put_plan put_into sweep_plan sweep_of
tells mount im p e =
    let a = gave (accepted im) (mount_of im) p e in
    let r : Reading = a.value in
    let b = accepted_gives im r a.from in
    let q : mount_of im r ≡ give p = a.on in
    let is : mount_work (mended im r) ≡ p = given_is q in
    tells_by mount im p r (mended im r) b.1 (ap (λ (z : Plan). z.done.space) (sym is))
    (subst (λ (z : Plan). Leaves im z.steps (mended_reading r) (mended im r)) is (mount_leaves im r b.0 b.1))
tells (put name content) im p e =
    let a = gave (admitted_named name im) (put_into name content im) p e in
    let r : Reading = a.value in
    let w : Work = put_work name content im r in
    let given : Bool = room r.place name (size_of (length name) (length content)) r.entries in
    let b = named_gives im r name a.from in
    let d = passed given (numbered 28) (putting name content im r) p a.on in
    tells_by (put name content) im p r w (settled_gives im r b.2).0 (ap (λ (z : Plan). z.done.space) (sym d.1))
    (subst (λ (z : Plan). Leaves im z.steps (put_left name content r) w) d.1
    (put_leaves im r name content (good (length im) b.0) (settled_rested im r b.2) b.1 d.0))
tells sweep im p e =
    let a = gave (admitted im) (sweep_of im) p e in
    let r : Reading = a.value in
    let w : Work = sweep_work im r in
    let b = admitted_gives im r a.from in
    let d = passed (not (no_room r r.entries)) (numbered 28) (sweeping im r) p a.on in
    tells_by sweep im p r w (settled_gives im r b.1).0 (ap (λ (z : Plan). z.done.space) (sym d.1))
    (subst (λ (z : Plan). Leaves im z.steps (left_reading sweep r) w) d.1
    (sweep_leaves im r (good (length im) b.0) (settled_rested im r b.1)))
