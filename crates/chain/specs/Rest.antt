-- All that is read from a cursor on, and its one law.
use Rattle.std.specs.Prelude.{ℕ, zero, suc, ◌<◌, ◌≡◌, refl, false, List, [], ◌∷◌, drop}
use Rattle.std.proofs.Common.{arith, not-suc-le-zero, ap, ◌∙◌}
use Rattle.spec.specs.Record.{rec_of, Entry}
use Rattle.chain.specs.declared.Cursor.{Cursor}
use Rattle.chain.specs.declared.Spot.{Spot}
use Rattle.chain.specs.declared.Item.{Item}
use Rattle.chain.specs.Cursor.{advance, left}
use Rattle.chain.specs.Along.{Way, way, reached_less}

-- ---- every step leaves less

abbrev pub Less : Cursor → Item → Type 0
Less c (Item.Record e next) = left next < left c
Less c (Item.End t w) = Unit {0}
Less c (Item.TornWrap t) = Unit {0}
Less c (Item.Broken t w) = Unit {0}

pub advance_less : (image : List ℕ) (c : Cursor) → Less c (advance image c)
advance_less image c = go (advance image c) (way image c) where
  go : (r : Item) → Way image c r → Less c r
  go (Item.Record e next) w = reached_less w
  go (Item.End t w) z = tt
  go (Item.TornWrap t) z = tt
  go (Item.Broken t w) z = tt

-- ---- what is read from a cursor on

-- records one after another, and what ends them
pub record Run : Type 0 where
  pub entries : List Entry
  pub ending : Item

-- the record that stands there
abbrev pub entry_of : List ℕ → Spot → Entry
entry_of image e = record { at = e.at; it = rec_of (drop e.at image) e.n e.d }

abbrev pub ahead : Entry → Run → Run
ahead e r = record { entries = e ∷ r.entries; ending = r.ending }

abbrev pub done : Item → Run
done s = record { entries = []; ending = s }

abbrev pub followed : List ℕ → Item → (Cursor → Run) → Run
followed image (Item.Record e next) f = ahead (entry_of image e) (f next)
followed image (Item.End t w) f = done (Item.End t w)
followed image (Item.TornWrap t) f = done (Item.TornWrap t)
followed image (Item.Broken t w) f = done (Item.Broken t w)

unfoldable pub rest_by : ℕ → List ℕ → Cursor → Run
rest_by zero image c = done (Item.Broken 0 false)
rest_by (suc k) image c = followed image (advance image c) (rest_by k image)

unfoldable pub rest : List ℕ → Cursor → Run
rest image c = rest_by (suc (left c)) image c

-- a fuel that is enough is as good as any other
followed_same : (image : List ℕ) (c : Cursor) (r : Item) (f g : Cursor → Run) → Less c r → ((d : Cursor) → left d < left c → f d ≡ g d)
    → followed image r f ≡ followed image r g
followed_same image c (Item.Record x next) f g h e = rw (e next h)
followed_same image c (Item.End t w) f g h e = refl
followed_same image c (Item.TornWrap t) f g h e = refl
followed_same image c (Item.Broken t w) f g h e = refl

enough : (k j : ℕ) (image : List ℕ) (c : Cursor) → left c < k → left c < j → rest_by k image c ≡ rest_by j image c
unfolding rest_by
enough zero j image c h g = absurd (not-suc-le-zero h)
enough (suc k) zero image c h g = absurd (not-suc-le-zero g)
enough (suc k) (suc j) image c h g =
    followed_same image c (advance image c) (rest_by k image) (rest_by j image) (advance_less image c)
    (λ d l. enough k j image d (omega arith) (omega arith))

-- THE law of every loop over the chain
pub rest_step : (image : List ℕ) (c : Cursor) → rest image c ≡ followed image (advance image c) (rest image)
unfolding rest_by rest
rest_step image c =
    followed_same image c (advance image c) (rest_by (left c) image) (rest image) (advance_less image c)
    (λ d l. enough (left c) (suc (left d)) image d l (omega arith))

pub rest_record : (image : List ℕ) (c : Cursor) (e : Spot) (next : Cursor) → advance image c ≡ Item.Record e next
    → rest image c ≡ ahead (entry_of image e) (rest image next)
rest_record image c e next h = rest_step image c ∙ ap (λ (r : Item). followed image r (rest image)) h
