-- Planned puts and removes, on every image of bytes: each of their steps is sound.
use Prim.Native.Nat.{ℕ, ◌+◌, ◌<◌}
use Rattle.std.proofs.Common.{arith, sym}
use Rattle.std.specs.Prelude.{◌≡◌, Bool, List, [], ◌∷◌, length}
use Rattle.std.proofs.Math.Path.{refl, subst}
use Rattle.std.proofs.Math.Bool.{true, false}
use Rattle.std.proofs.Math.Option.{Option, none, some}
use Rattle.spec.specs.Step.{Image}
use Rattle.spec.specs.Basics.{Answer, refuse, give, onward, Each}
use Rattle.spec.specs.Record.{size_of, Entry}
use Rattle.spec.specs.Chain.{Reading}
use Rattle.spec.specs.Files.{live, has_name, file_named}
use Rattle.spec.specs.Place.{room}
use Rattle.spec.specs.Demand.{StepsSound}
use Rattle.spec.specs.Door.{admitted_named}
use Rattle.spec.specs.Answers.{put_into, put_plan, found, file_of, file_plan, removing, remove_plan}
use Rattle.spec.specs.History.{steps_of}
use Rattle.laws.specs.Lists.{each_map}
use Rattle.laws.specs.Length.{Good, good}
use Rattle.laws.specs.Names.{Readable, name_readable}
use Rattle.laws.specs.Door.{named_gives}
use Rattle.planning.specs.Rested.{Rested, settled_rested}
use Rattle.planning.specs.Puts.{room_fits, first_kept}
use Rattle.replay.specs.Record.{zero_sound}
use Rattle.replay.specs.Placing.{spot_of, StandsIn, put_sound}
use Rattle.replay.specs.LastThing.{Standing, reads_standing}

-- ---- the file of a name

-- it stands in the image
file_stands : (im : Image) (es : List Entry) → Each (Standing im) es → (n : List ℕ) (o : Option Entry) → file_named n es ≡ o
    → StandsIn im o
unfolding file_named
file_stands im es w n none q = tt
file_stands im es w n (some e) q =
    let s : Standing im e = first_kept (live es) (has_name n) es e (Standing im) q (each_map es (λ f s l. s) w) in
    (omega (arith, s.short, s.stands.fits), s.stands.status)

-- ---- put

readable_bytes : (n : List ℕ) → Each Readable n → Each (λ b. b < 256) n
readable_bytes [] h = tt
readable_bytes (x ∷ n) h = (omega (arith, h.0.1), readable_bytes n h.1)

module _ (im : Image) (name content : List ℕ) (bc : Each (λ b. b < 256) content) where
  put_from : (r : Reading) → admitted_named name im ≡ give r → (t : Bool)
      → room r.place name (size_of (length name) (length content)) r.entries ≡ t
      → StepsSound im (steps_of (put_into name content im r))
  unfolding put_into
  put_from r e true k =
      let p = named_gives im r name e in
      let g : Good (length im) = good (length im) p.0 in
      let w : Rested im r = settled_rested im r p.2 in
      let z : ℕ = size_of (length name) (length content) in
      rw (put_into, k)
      (put_sound im r.place (file_named name r.entries) name content
      (file_stands im r.entries (reads_standing (omega (arith, w.inside)) w.reads) name (file_named name r.entries) refl)
      (spot_of im g w z (room_fits r.place name z r.entries k)) (readable_bytes name (name_readable name p.1)) bc)
  put_from r e false k = rw (put_into, k) tt

  pub put_plan_sound : StepsSound im (steps_of (put_plan name content im))
  unfolding put_plan
  put_plan_sound = go (admitted_named name im) refl where
    go : (a : Answer Reading) → admitted_named name im ≡ a
        → StepsSound im (steps_of (onward (admitted_named name im) (put_into name content im)))
    go (refuse x) q = subst (λ (b : Answer Reading). StepsSound im (steps_of (onward b (put_into name content im)))) (sym q) tt
    go (give r) q =
        subst (λ (b : Answer Reading). StepsSound im (steps_of (onward b (put_into name content im)))) (sym q) (put_from r q _ refl)

-- ---- remove

module _ (im : Image) (name : List ℕ) where
  remove_from : (o : Option Entry) → StandsIn im o → StepsSound im (steps_of (found removing o))
  remove_from none s = tt
  remove_from (some e) s = (zero_sound im (e.at + 2) s.0, tt)

  pub remove_plan_sound : StepsSound im (steps_of (remove_plan name im))
  unfolding remove_plan file_plan
  remove_plan_sound = go (admitted_named name im) refl where
    go : (a : Answer Reading) → admitted_named name im ≡ a
        → StepsSound im (steps_of (onward (admitted_named name im) (file_of name removing)))
    go (refuse x) q = subst (λ (b : Answer Reading). StepsSound im (steps_of (onward b (file_of name removing)))) (sym q) tt
    go (give r) q =
        let w : Rested im r = settled_rested im r (named_gives im r name q).2 in
        subst (λ (b : Answer Reading). StepsSound im (steps_of (onward b (file_of name removing)))) (sym q)
        (remove_from (file_named name r.entries)
        (file_stands im r.entries (reads_standing (omega (arith, w.inside)) w.reads) name (file_named name r.entries) refl))
