-- One step along the chain: where it looks and what it finds there; and induction along the chain. The laws about a step follow from here.
use Rattle.std.specs.Prelude.{ℕ, zero, suc, ◌-◌, ◌≤◌, ◌<◌, ◌≡◌, Bool, ltb}
use Rattle.std.proofs.Common.{arith, not-suc-le-zero, ltb-true}
use Rattle.std.proofs.Math.Path.{refl}
use Rattle.std.proofs.Math.Bool.{true, false}
use Rattle.spec.specs.declared.Next.{Next}
use Rattle.spec.specs.Step.{Image}
use Rattle.spec.specs.Record.{size_of}
use Rattle.chain.specs.declared.Cursor.{Cursor}
use Rattle.chain.specs.declared.Spot.{Spot}
use Rattle.chain.specs.declared.Item.{Item}
use Rattle.chain.specs.Cursor.{look, goes_on, turn, past, torn_end, unfinished_at, settle, advance, left, CursorSound}
use Rattle.chain.specs.Fits.{look_inside}
use Rattle.chain.specs.CursorLaws.{advance_on, advance_here, sound_turn}

-- ---- where it looks

-- at c itself, or at 0 where the chain turns
pub data From (image : Image) (c : Cursor) : Cursor → Type 0 where
  here : goes_on c.room (look image c) ≡ false → From image c c
  turned : goes_on c.room (look image c) ≡ true → From image c (turn c.room c.pending)

pub record Sought (image : Image) (c : Cursor) : Type 0 where
  pub seen : Cursor
  pub from : From image c seen

pub sought : (image : Image) (c : Cursor) → Sought image c
sought image c = go _ refl where
  go : (t : Bool) → goes_on c.room (look image c) ≡ t → Sought image c
  go true e = record { seen = turn c.room c.pending; from = turned e }
  go false e = record { seen = c; from = here e }

pub from_advance : {image : Image} {c d : Cursor} → From image c d → advance image c ≡ settle image d (look image d)
from_advance {image} {c} (here e) = advance_here image c e
from_advance {image} {c} (turned e) = advance_on image c e

pub from_left : {image : Image} {c d : Cursor} → From image c d → left d ≤ left c
from_left (here e) = omega arith
from_left (turned e) = omega arith

pub from_sound : {image : Image} {c d : Cursor} → From image c d → CursorSound image c → CursorSound image d
from_sound (here e) s = s
from_sound {image} {c} (turned e) s = sound_turn image c s

pub room_left : (room : ℕ) (x : Next) → goes_on room x ≡ true → 0 < room
room_left room (Next.Record n d) e = absurd (let z : ◌≡◌ {A = ℕ} 0 1 = cc in omega arith)
room_left room Next.Wrap e = ltb-true 0 room e
room_left room Next.TornWrap e = absurd (let z : ◌≡◌ {A = ℕ} 0 1 = cc in omega arith)
room_left room Next.Clear e = absurd (let z : ◌≡◌ {A = ℕ} 0 1 = cc in omega arith)
room_left room Next.Over e = ltb-true 0 room e
room_left room Next.Bad e = absurd (let z : ◌≡◌ {A = ℕ} 0 1 = cc in omega arith)

-- ---- what it finds

-- a record, and the cursor past it
pub record Reached (image : Image) (c : Cursor) (e : Spot) (next : Cursor) : Type 0 where
  pub seen : Cursor
  pub from : From image c seen
  pub what : look image seen ≡ Next.Record e.n e.d
  pub at : e.at ≡ seen.at
  pub next_is : next ≡ past seen (size_of e.n e.d) (unfinished_at image seen.at)
  pub fits : size_of e.n e.d ≤ seen.end - seen.at

-- the end of the chain, at t; w: it has turned
pub record Stops (image : Image) (c : Cursor) (t : ℕ) (w : Bool) : Type 0 where
  pub seen : Cursor
  pub from : From image c seen
  pub at : t ≡ seen.at
  pub turned : w ≡ seen.turned

pub record Torn (image : Image) (c : Cursor) (t : ℕ) : Type 0 where
  pub seen : Cursor
  pub from : From image c seen
  pub at : t ≡ seen.at
  pub what : look image seen ≡ Next.TornWrap

abbrev pub Way : Image → Cursor → Item → Type 0
Way image c (Item.Record e next) = Reached image c e next
Way image c (Item.End t w) = Stops image c t w
Way image c (Item.TornWrap t) = Torn image c t
Way image c (Item.Broken t w) = Stops image c t w

module _ (image : Image) (c : Cursor) where
  module _ (d : Cursor) (f : From image c d) where
    torn_way : (t : Bool) → ltb 0 d.room ≡ t → look image d ≡ Next.TornWrap → Way image c (torn_end d.room d.turned d.at)
    unfolding torn_end
    torn_way true e h = rw (torn_end, e) record { seen = d; from = f; at = refl; what = h }
    torn_way false e h = rw (torn_end, e) record { seen = d; from = f; at = refl; turned = refl }

    settle_way : (x : Next) → look image d ≡ x → Way image c (settle image d x)
    settle_way (Next.Record n l) h = record { seen = d; from = f; what = h; at = refl; next_is = refl; fits = look_inside image d n l h }
    settle_way Next.Wrap h = record { seen = d; from = f; at = refl; turned = refl }
    settle_way Next.TornWrap h = torn_way _ refl h
    settle_way Next.Clear h = record { seen = d; from = f; at = refl; turned = refl }
    settle_way Next.Over h = record { seen = d; from = f; at = refl; turned = refl }
    settle_way Next.Bad h = record { seen = d; from = f; at = refl; turned = refl }

  pub way : Way image c (advance image c)
  way = let w = sought image c in rw (from_advance w.from) (settle_way w.seen w.from (look image w.seen) refl)

  pub reached : (e : Spot) (next : Cursor) → advance image c ≡ Item.Record e next → Reached image c e next
  reached e next q = rw q at way

-- ---- induction

pub reached_less : {image : Image} {c : Cursor} {e : Spot} {next : Cursor} → Reached image c e next → left next < left c
reached_less r = rw r.next_is (omega (arith, r.fits, from_left r.from))

-- what holds of a cursor, if it holds of the one past the record that stands there, holds of every cursor
module _ (image : Image) (P : Cursor → Type 0) (step : (c : Cursor) → ((e : Spot) (next : Cursor) → Reached image c e next → P next) → P c)
  where
    by_fuel : (k : ℕ) (c : Cursor) → left c < k → P c
    by_fuel zero c l = absurd (not-suc-le-zero l)
    by_fuel (suc k) c l = step c (λ e next r. by_fuel k next (omega (arith, reached_less r)))

    pub along : (c : Cursor) → P c
    along c = by_fuel (suc (left c)) c (omega arith)
