-- The way of the chain from a head on: where its records stand, and where it ends.
use Rattle.std.specs.Prelude.{ℕ, ◌%◌, ◌≤◌, ◌≡◌, refl, Bool, true, false}
use Rattle.std.proofs.Common.{arith, sym, ◌∙◌}
use Rattle.spec.specs.Step.{Image}
use Rattle.spec.specs.Geometry.{floor}
use Rattle.laws.specs.Tests.{wrong}
use Rattle.chain.specs.declared.Cursor.{Cursor}
use Rattle.chain.specs.declared.Spot.{Spot}
use Rattle.chain.specs.declared.Item.{Item}
use Rattle.chain.specs.Cursor.{look, turn, advance}
use Rattle.chain.specs.Along.{From, here, turned, Reached, Stops, Way, way, room_left, along}
use Rattle.chain.specs.Rest.{followed, rest, rest_step}

-- ---- all steps from the head h of an image of length N: in eights, before the turn not below lo

pub record On (N h lo : ℕ) (c : Cursor) : Type 0 where
  pub even : c.at % 8 ≡ 0
  pub up : c.turned ≡ false → (lo ≤ c.at) × (c.at ≤ N) × (c.end ≡ N) × (c.room ≡ floor h)
  pub round : c.turned ≡ true → (c.at ≤ floor h) × (c.end ≡ floor h) × (c.room ≡ 0)

-- the same of where the chain ends
pub record Lands (N h lo t : ℕ) (w : Bool) : Type 0 where
  pub even : t % 8 ≡ 0
  pub up : w ≡ false → (lo ≤ t) × (t ≤ N)
  pub round : w ≡ true → t ≤ floor h

abbrev pub EndsOn : ℕ → ℕ → ℕ → Item → Type 0
EndsOn N h lo (Item.Record e next) = ⊥
EndsOn N h lo (Item.End t w) = Lands N h lo t w
EndsOn N h lo (Item.TornWrap t) = Unit {0}
EndsOn N h lo (Item.Broken t w) = Lands N h lo t w

module _ (image : Image) (N h lo : ℕ) where
  pub from_on : (c d : Cursor) → From image c d → On N h lo c → On N h lo d
  from_on c d (here e) o = o
  from_on c d (turned e) o = go c.turned refl where
    go : (t : Bool) → c.turned ≡ t → On N h lo (turn c.room c.pending)
    go true q = absurd (omega (arith, room_left c.room (look image c) e, (o.round q).2))
    go false q = record { even = refl; up = λ z. wrong (sym z); round = λ z. (omega arith, (o.up q).3, refl) }

  pub past_on : (c : Cursor) (e : Spot) (next : Cursor) → On N h lo c → Reached image c e next → On N h lo next
  past_on c e next o r =
      let d = r.seen in
      let p = from_on c d r.from o in
      rw r.next_is
      record {
        even = omega (arith, p.even);
        up = λ z. (omega (arith, (p.up z).0), omega (arith, r.fits, (p.up z).1, (p.up z).2), (p.up z).2, (p.up z).3);
        round = λ z. (omega (arith, r.fits, (p.round z).0, (p.round z).1), (p.round z).1, (p.round z).2);
      }

  lands : (c : Cursor) (t : ℕ) (w : Bool) → On N h lo c → Stops image c t w → Lands N h lo t w
  lands c t w o r =
      let p = from_on c r.seen r.from o in
      record {
        even = omega (arith, r.at, p.even);
        up = λ z. let u = p.up (sym r.turned ∙ z) in (omega (arith, r.at, u.0), omega (arith, r.at, u.1));
        round = λ z. omega (arith, r.at, (p.round (sym r.turned ∙ z)).0);
      }

  pub ends_on : (c : Cursor) → On N h lo c → EndsOn N h lo (rest image c).ending
  ends_on =
      along image (λ (c : Cursor). On N h lo c → EndsOn N h lo (rest image c).ending)
      (λ c ih o. rw (rest_step image c) (go c o (advance image c) (way image c) ih))
    where
      go : (c : Cursor) → On N h lo c → (r : Item) → Way image c r
          → ((e : Spot) (next : Cursor) → Reached image c e next → On N h lo next → EndsOn N h lo (rest image next).ending)
          → EndsOn N h lo (followed image r (rest image)).ending
      go c o (Item.Record e next) w ih = ih e next w (past_on c e next o w)
      go c o (Item.End t u) w ih = lands c t u o w
      go c o (Item.TornWrap t) w ih = tt
      go c o (Item.Broken t u) w ih = lands c t u o w
