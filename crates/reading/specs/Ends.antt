-- How a chain ends: before the turn not in front of its head, and a torn wrap with all its eight bytes.
use Rattle.std.specs.Prelude.{ℕ, ◌+◌, ◌≤◌, ◌≡◌, Bool, false, List, length}
use Rattle.std.proofs.Common.{arith, sym, ◌∙◌, length-drop, length-take}
use Rattle.spec.specs.declared.Next.{Next}
use Rattle.laws.specs.Tests.{wrong}
use Rattle.chain.specs.declared.Cursor.{Cursor}
use Rattle.chain.specs.declared.Spot.{Spot}
use Rattle.chain.specs.declared.Item.{Item}
use Rattle.chain.specs.Cursor.{window, look, advance}
use Rattle.chain.specs.Fits.{look_fits}
use Rattle.chain.specs.Along.{From, here, turned, Reached, Stops, Way, way, along}
use Rattle.chain.specs.Rest.{followed, rest, rest_step}

-- a torn wrap has eight bytes
look_torn : (image : List ℕ) (c : Cursor) → look image c ≡ Next.TornWrap → c.at + 8 ≤ length image
look_torn image c e =
    let h : 8 ≤ length (window image c) = rw e at (look_fits image c) in
    omega (arith, rw (length-drop, length-take) at h)

-- ---- from a cursor on

-- before the turn the chain goes up from c
abbrev pub Up : Cursor → Bool → ℕ → Type 0
Up c w t = w ≡ false → (c.turned ≡ false) × (c.at ≤ t)

-- the chain's end, from c on
abbrev pub Closes : List ℕ → Cursor → Item → Type 0
Closes image c (Item.Record e next) = ⊥
Closes image c (Item.End t w) = Up c w t
Closes image c (Item.TornWrap t) = t + 8 ≤ length image
Closes image c (Item.Broken t w) = Up c w t

module _ (image : List ℕ) where
  from_up : {c d : Cursor} → From image c d → Up c d.turned d.at
  from_up (here e) = λ q. (q, omega arith)
  from_up (turned e) = λ q. wrong (sym q)

  stop_up : {c : Cursor} {t : ℕ} {w : Bool} → Stops image c t w → Up c w t
  stop_up s = λ q. ((from_up s.from (sym s.turned ∙ q)).0, omega (arith, s.at, (from_up s.from (sym s.turned ∙ q)).1))

  next_up : {c : Cursor} {e : Spot} {next : Cursor} → Reached image c e next → Up c next.turned next.at
  next_up r = rw r.next_is (λ q. ((from_up r.from q).0, omega (arith, (from_up r.from q).1)))

  -- what the chain behind a record ends with
  onward_ends : (c d : Cursor) (r : Item) → Up c d.turned d.at → Closes image d r → Closes image c r
  onward_ends c d (Item.Record e next) u o = o
  onward_ends c d (Item.End a w) u o = λ q. ((u (o q).0).0, omega (arith, (u (o q).0).1, (o q).1))
  onward_ends c d (Item.TornWrap a) u o = o
  onward_ends c d (Item.Broken a w) u o = λ q. ((u (o q).0).0, omega (arith, (u (o q).0).1, (o q).1))

  pub rest_closes : (c : Cursor) → Closes image c (rest image c).ending
  rest_closes = along image (λ (c : Cursor). Closes image c (rest image c).ending)
      (λ c ih. rw (rest_step image c) (go c (advance image c) (way image c) ih))
    where
      go : (c : Cursor) (r : Item) → Way image c r
          → ((e : Spot) (next : Cursor) → Reached image c e next → Closes image next (rest image next).ending)
          → Closes image c (followed image r (rest image)).ending
      go c (Item.Record e next) w ih = onward_ends c next (rest image next).ending (next_up w) (ih e next w)
      go c (Item.End t u) w ih = stop_up w
      go c (Item.TornWrap t) w ih = omega (arith, w.at, look_torn image w.seen w.what)
      go c (Item.Broken t u) w ih = stop_up w
