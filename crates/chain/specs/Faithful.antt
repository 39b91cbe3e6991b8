-- Every record that is read is the one that stands at its spot.
use Rattle.std.specs.Prelude.{ℕ, ◌≡◌, List}
use Rattle.std.proofs.Common.{arith, ap}
use Rattle.spec.specs.Basics.{Each}
use Rattle.spec.specs.Record.{Entry}
use Rattle.chain.specs.declared.Cursor.{Cursor}
use Rattle.chain.specs.declared.Spot.{Spot}
use Rattle.chain.specs.declared.Item.{Item}
use Rattle.chain.specs.Cursor.{advance, CursorSound}
use Rattle.chain.specs.Along.{Reached, Way, way, from_sound, along}
use Rattle.chain.specs.Rest.{entry_of, followed, rest, rest_step}
use Rattle.chain.specs.Fold.{spot_of, spot_is, Whole}

abbrev pub Stands : List ℕ → Entry → Type 0
Stands image e = entry_of image (spot_of e) ≡ e

module _ (image : List ℕ) where
  -- a step stays in the image
  reached_whole : {c : Cursor} {e : Spot} {next : Cursor} → CursorSound image c → Reached image c e next
      → Whole image e × CursorSound image next
  reached_whole s r =
      let v = from_sound r.from s in (
        record { fits = omega (arith, r.at, r.fits, v.ordered, v.inside) },
        rw r.next_is record { ordered = omega (arith, r.fits, v.ordered); inside = v.inside; room = v.room; small = v.small },
      )

  pub faithful : (c : Cursor) → CursorSound image c → Each (Stands image) (rest image c).entries
  faithful =
      along image (λ (c : Cursor). CursorSound image c → Each (Stands image) (rest image c).entries)
      (λ c ih s. rw (rest_step image c) (go c s (advance image c) (way image c) ih))
    where
      go : (c : Cursor) → CursorSound image c → (r : Item) → Way image c r
          → ((e : Spot) (next : Cursor) → Reached image c e next → CursorSound image next → Each (Stands image) (rest image next).entries)
          → Each (Stands image) (followed image r (rest image)).entries
      go c s (Item.Record e next) w ih = let k = reached_whole s w in (ap (entry_of image) (spot_is image e k.0), ih e next w k.1)
      go c s (Item.End t u) w ih = tt
      go c s (Item.TornWrap t) w ih = tt
      go c s (Item.Broken t u) w ih = tt
