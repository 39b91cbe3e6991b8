-- A planned mount, on every image of bytes: each of its steps is sound.
use Rattle.std.specs.Prelude.{ℕ, ◌+◌, ◌≤◌, ◌≡◌, refl, true, List, [], ◌∷◌, ◌++◌, length}
use Rattle.std.proofs.Common.{arith, sym, ap, ◌∙◌, subst}
use Rattle.spec.specs.Step.{Image, Step, apply, run}
use Rattle.spec.specs.Basics.{Answer, refuse, give, onward}
use Rattle.spec.specs.Geometry.{good_length}
use Rattle.spec.specs.Chain.{Reading}
use Rattle.spec.specs.Reading.{reading}
use Rattle.spec.specs.Demand.{StepsSound}
use Rattle.spec.specs.Mount.{drop_steps, mended}
use Rattle.spec.specs.Door.{accepted}
use Rattle.spec.specs.Answers.{mount_of, mount_plan}
use Rattle.spec.specs.History.{steps_of}
use Rattle.laws.specs.Length.{Good, good}
use Rattle.laws.specs.Steps.{run_append, sound_append}
use Rattle.laws.specs.Door.{accepted_gives}
use Rattle.planning.specs.Repairs.{steps_1, steps_2, steps_3}
use Rattle.planning.specs.Planned.{started, voided, half_mended}
use Rattle.planning.specs.First.{head_recordish, reads_head}
use Rattle.planning.specs.Known.{Known, accepted_known}
use Rattle.planning.specs.Dropped.{reads_inside}
use Rattle.planning.specs.Started.{Starts}
use Rattle.planning.specs.Leads.{Leads}
use Rattle.planning.specs.Mends.{phase_1, phase_2, phase_3, phases}
use Rattle.replay.specs.Runs.{BytesIn, sound_bytes_in}
use Rattle.replay.specs.Mounting.{steps_1_sound, steps_2_sound, drop_sound}
use Rattle.replay.specs.LastThing.{steps_3_sound}

pub run_bytes_in : (im : Image) (ss : List Step) → StepsSound im ss → BytesIn im → BytesIn (run im ss)
run_bytes_in im [] h w = w
run_bytes_in im (s ∷ ss) h w = run_bytes_in (apply im s) ss h.1 (sound_bytes_in im s h.0 w)

module _ (im : Image) (r : Reading) (n : good_length (length im) ≡ true) (e : reading im ≡ give r) (bs : BytesIn im) where
  abbrev g : Good (length im)
  g = good (length im) n

  known : Known im r
  known = accepted_known im r e

  abbrev ss_1 : List Step
  ss_1 = steps_1 im r

  abbrev im_1 : Image
  im_1 = run im ss_1

  one : Starts im im_1 r
  one = phase_1 im r n e

  sound_1 : StepsSound im ss_1
  sound_1 = steps_1_sound im g r known

  abbrev ss_2 : List Step
  ss_2 = steps_2 r.place.length (started r.entries)

  abbrev im_2 : Image
  im_2 = run im_1 ss_2

  sound_2 : StepsSound im_1 ss_2
  sound_2 =
      let g_1 : Good (length im_1) = subst Good (sym one.len) g in
      let l : r.place.head + 8 ≤ length im_1 = omega (arith, known.inside, known.even, g.sectors, one.len) in
      subst (λ (k : ℕ). StepsSound im_1 (steps_2 k (started r.entries))) (one.len ∙ sym (reads_head known.reads).1)
      (steps_2_sound im_1 g_1 (omega (arith, l)) (head_recordish im_1 r.place.head l one.low) one.reads
      (started r.entries) refl)

  two : Leads im_1 im_2 (record { place = r.place; entries = started r.entries; ending = r.ending }) (half_mended r)
  two = phase_2 im r n e

  abbrev ss_3 : List Step
  ss_3 = steps_3 im_2 (half_mended r)

  abbrev im_3 : Image
  im_3 = run im_2 ss_3

  sound_3 : StepsSound im_2 ss_3
  sound_3 =
      steps_3_sound im_2 (run_bytes_in im_1 ss_2 sound_2 (run_bytes_in im ss_1 sound_1 bs)) (omega (arith, two.inside, two.len))
      two.reads

  abbrev ss_4 : List Step
  ss_4 = drop_steps (voided (half_mended r).entries)

  sound_4 : StepsSound im_3 ss_4
  sound_4 =
      let three = phase_3 im r n e in
      drop_sound im_3 (voided (half_mended r).entries) (reads_inside (omega (arith, two.inside, two.len, three.0)) three.1)

  mended_sound : StepsSound im (mended im r).steps
  mended_sound =
      let left : run im (ss_1 ++ ss_2) ≡ im_2 = run_append im ss_1 ss_2 in
      let last : run im ((ss_1 ++ ss_2) ++ ss_3) ≡ im_3 = run_append im (ss_1 ++ ss_2) ss_3 ∙ ap (λ (i : Image). run i ss_3) left in
      subst (StepsSound im) (sym (phases im r n e))
      (sound_append im ((ss_1 ++ ss_2) ++ ss_3) ss_4
      (sound_append im (ss_1 ++ ss_2) ss_3 (sound_append im ss_1 ss_2 sound_1 sound_2)
      (subst (λ (i : Image). StepsSound i ss_3) (sym left) sound_3))
      (subst (λ (i : Image). StepsSound i ss_4) (sym last) sound_4))

pub mount_sound : (im : Image) → BytesIn im → StepsSound im (steps_of (mount_plan im))
unfolding mount_plan
mount_sound im bs = go (accepted im) refl where
  go : (a : Answer Reading) → accepted im ≡ a → StepsSound im (steps_of (onward (accepted im) (mount_of im)))
  go (refuse x) q = subst (λ (b : Answer Reading). StepsSound im (steps_of (onward b (mount_of im)))) (sym q) tt
  go (give r) q =
      let p = accepted_gives im r q in
      subst (λ (b : Answer Reading). StepsSound im (steps_of (onward b (mount_of im)))) (sym q) (mended_sound im r p.0 p.1 bs)
