-- Whether a sweep goes on, by the first record and whether a second one stands behind it.
use Rattle.std.specs.Prelude.{◌≡◌, Bool, true, false, not, List, [], ◌∷◌}
use Rattle.std.proofs.Math.Path.{refl}
use Rattle.std.proofs.Common.{ap, ◌∙◌}
use Rattle.spec.specs.Record.{Entry, size}
use Rattle.spec.specs.Chain.{Reading}
use Rattle.spec.specs.Files.{live}
use Rattle.spec.specs.Place.{fits}
use Rattle.spec.specs.Sweep.{no_room, at_end, stuck}
use Rattle.laws.specs.Sweep.{end_live, end_dead, end_two, stuck_end, stuck_room, room_live, room_dead}

module _ (r : Reading) where
  pub stuck_empty : (es : List Entry) → r.entries ≡ es → es ≡ [] → stuck r ≡ true
  unfolding stuck at_end
  stuck_empty es e f = rw (stuck, e, f, at_end)

  pub room_empty : no_room r [] ≡ false
  unfolding no_room
  room_empty = refl

  module _ (x : Entry) where
    pub stuck_live : (es : List Entry) (t : Bool) → r.entries ≡ x ∷ es → live (x ∷ es) x ≡ true → fits r.place (size x) ≡ t
        → stuck r ≡ not t
    stuck_live es t e l f = stuck_room r (ap at_end e ∙ end_live x es l) ∙ ap (no_room r) e ∙ room_live r x es t l f

    pub stuck_last : (es : List Entry) → r.entries ≡ x ∷ es → es ≡ [] → live (x ∷ es) x ≡ false → stuck r ≡ true
    stuck_last [] e z l = stuck_end r (ap at_end e ∙ end_dead x l)
    stuck_last (y ∷ es) e z l = cc

    pub stuck_not : (y : Entry) (es : List Entry) → r.entries ≡ x ∷ (y ∷ es) → live (x ∷ (y ∷ es)) x ≡ false → stuck r ≡ false
    stuck_not y es e l = stuck_room r (ap at_end e ∙ end_two x y es) ∙ ap (no_room r) e ∙ room_dead r x (y ∷ es) l
