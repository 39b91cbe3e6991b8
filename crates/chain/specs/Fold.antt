-- The form of every loop over the chain: a fold over what is read from a cursor on.
use Rattle.std.specs.Prelude.{ℕ, ◌+◌, ◌≤◌, ◌≡◌, refl, List, length, drop}
use Rattle.std.proofs.Common.{arith, sym, ap, ap₂, ◌∙◌, length-drop, length-take-le}
use Rattle.spec.specs.Geometry.{up8}
use Rattle.spec.specs.Record.{Entry, name_of, content_of, size_of}
use Rattle.chain.specs.declared.Cursor.{Cursor}
use Rattle.chain.specs.declared.Spot.{Spot}
use Rattle.chain.specs.declared.Item.{Item}
use Rattle.chain.specs.Cursor.{advance, Inside, Onward, CursorSound}
use Rattle.chain.specs.Rest.{Run, entry_of, ahead, done, followed, rest, rest_step}

-- ---- where an entry stands

abbrev pub spot_of : Entry → Spot
spot_of e = record { at = e.at; n = length (name_of e); d = length (content_of e) }

-- a record of which all bytes are there
pub record Whole (image : List ℕ) (e : Spot) : Type 0 where
  pub fits : e.at + size_of e.n e.d ≤ length image

module _ (image : List ℕ) (e : Spot) (w : Whole image e) where
  pub name_length_is : length (name_of (entry_of image e)) ≡ e.n
  name_length_is = length-take-le e.n (drop 8 (drop e.at image)) (rw (length-drop, length-drop) (omega (arith, w.fits)))

  pub content_length_is : length (content_of (entry_of image e)) ≡ e.d
  content_length_is =
      length-take-le e.d (drop (up8 (e.n + 1)) (drop 8 (drop e.at image)))
      (rw (length-drop, length-drop, length-drop) (omega (arith, w.fits)))

  pub spot_is : spot_of (entry_of image e) ≡ e
  spot_is = ap₂ (λ (n d : ℕ). record { at = e.at; n = n; d = d }) name_length_is content_length_is

-- ---- a turn of the loop: a record, or the end

pub record Passes (image : List ℕ) (c : Cursor) (e : Spot) (next : Cursor) : Type 0 where
  pub onward : Onward image c e next
  pub split : rest image c ≡ ahead (entry_of image e) (rest image next)
  pub whole : Whole image e
  pub step : Item.Record e next ≡ advance image c

-- from what `advance` ensures, where it gave a record
pub passes : {image : List ℕ} {c : Cursor} {r : Item} {e : Spot} {next : Cursor} → (r ≡ advance image c) × Inside image c r
    → r ≡ Item.Record e next → Passes image c e next
passes {image} {c} {r} {e} {next} p q =
    let o : Onward image c e next = rw q at p.1 in
    record { onward = o; split = rw (rest_step image c, sym p.0 ∙ q); whole = record { fits = o.fits }; step = sym q ∙ p.0 }

abbrev pub NotRecord : Item → Type 0
NotRecord (Item.Record e next) = ⊥
NotRecord (Item.End t w) = Unit {0}
NotRecord (Item.TornWrap t) = Unit {0}
NotRecord (Item.Broken t w) = Unit {0}

followed_done : (image : List ℕ) (r : Item) (f : Cursor → Run) → NotRecord r → followed image r f ≡ done r
followed_done image (Item.Record e next) f z = absurd z
followed_done image (Item.End t w) f z = refl
followed_done image (Item.TornWrap t) f z = refl
followed_done image (Item.Broken t w) f z = refl

pub rest_done : (image : List ℕ) (c : Cursor) (r : Item) → r ≡ advance image c → NotRecord r → rest image c ≡ done r
rest_done image c r e z = rest_step image c ∙ ap (λ (x : Item). followed image x (rest image)) (sym e)
    ∙ followed_done image r (rest image) z

-- ---- the fold: f with the state s on what is left is f with the first state on all

pub record Folded {S A : Type 0} (f : S → Run → A) (image : List ℕ) (start : Cursor) (s₀ : S) (c : Cursor) (s : S) : Type 0 where
  pub sound : CursorSound image c
  pub same : f s₀ (rest image start) ≡ f s (rest image c)

module _ {S A : Type 0} (f : S → Run → A) (image : List ℕ) (start : Cursor) (s₀ : S) where
  pub fold_start : CursorSound image start → Folded f image start s₀ start s₀
  fold_start h = record { sound = h; same = refl }

  -- from c on to d
  pub fold_both : {c d : Cursor} {s t : S} → Folded f image start s₀ c s → Folded f image c s d t → Folded f image start s₀ d t
  fold_both w v = record { sound = v.sound; same = w.same ∙ v.same }

  module _ (c : Cursor) (s : S) (w : Folded f image start s₀ c s) where
    pub fold_end : (r : Item) → r ≡ advance image c → NotRecord r → f s (done r) ≡ f s₀ (rest image start)
    fold_end r e z = sym (w.same ∙ ap (f s) (rest_done image c r e z))

    module _ (e : Spot) (next : Cursor) (t : Passes image c e next) where
      pub fold_stop : (a : A) → f s (ahead (entry_of image e) (rest image next)) ≡ a → a ≡ f s₀ (rest image start)
      fold_stop a h = sym (w.same ∙ ap (f s) t.split ∙ h)

      pub fold_step : (s' : S) → f s (ahead (entry_of image e) (rest image next)) ≡ f s' (rest image next) → Folded f image start s₀ next s'
      fold_step s' h = record { sound = t.onward.sound; same = w.same ∙ ap (f s) t.split ∙ h }
