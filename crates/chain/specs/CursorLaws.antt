-- The code's steps along the chain are the definitions', and stay in the image.
use Rattle.std.specs.Prelude.{ℕ, ◌-◌, ◌≤◌, ◌≡◌, refl, Bool, List, length, take, drop, ltb}
use Rattle.std.proofs.Common.{arith, sym, ap, subst, ◌∙◌}
use Rattle.std.proofs.Math.Bool.{true, false}
use Rattle.spec.specs.declared.Next.{Next}
use Rattle.spec.specs.Next.{next}
use Rattle.spec.specs.Chain.{allowed}
use Rattle.record.specs.Within.{Within}
use Rattle.chain.specs.declared.Cursor.{Cursor}
use Rattle.chain.specs.declared.Item.{Item}
use Rattle.chain.specs.Cursor.{look, goes_on, turn, torn_end, settle, advance, CursorSound, left, Inside}
use Rattle.laws.specs.Parts.{part_window}

-- ---- what stands at a cursor

pub look_is : (image : List ℕ) (c : Cursor) (x y : Next) → c.at ≤ c.end → y ≡ next (take (c.end - c.at) (drop c.at image))
    → x ≡ allowed c.pending y → x ≡ look image c
unfolding look
look_is image c x y h e f = f ∙ ap (allowed c.pending) (e ∙ ap next (part_window c.at c.end image h))

-- ---- bounds

module _ (image : List ℕ) where
  torn_inside : (c : Cursor) (t : Bool) → c.at ≤ length image → ltb 0 c.room ≡ t
      → Inside image c (torn_end c.room c.turned c.at)
  unfolding torn_end
  torn_inside c true h e = rw (torn_end, e) h
  torn_inside c false h e = rw (torn_end, e) h

  pub inside_settle : (c : Cursor) (x : Next) → CursorSound image c → Within x (c.end - c.at) → Inside image c (settle image c x)
  inside_settle c (Next.Record n d) s w =
      record {
        sound = record { ordered = omega (arith, s.ordered); inside = s.inside; room = s.room; small = s.small };
        less = omega (arith, s.ordered);
        name = w.0;
        data_len = w.2;
        fits = omega (arith, s.ordered, s.inside);
        pending = refl;
      }
  inside_settle c Next.Wrap s w = omega (arith, s.ordered, s.inside)
  inside_settle c Next.TornWrap s w = torn_inside c (ltb 0 c.room) (omega (arith, s.ordered, s.inside)) refl
  inside_settle c Next.Clear s w = omega (arith, s.ordered, s.inside)
  inside_settle c Next.Over s w = omega (arith, s.ordered, s.inside)
  inside_settle c Next.Bad s w = omega (arith, s.ordered, s.inside)

  pub sound_turn : (c : Cursor) → CursorSound image c → CursorSound image (turn c.room c.pending)
  sound_turn c s = record { ordered = omega arith; inside = s.room; room = omega arith; small = s.small }

  -- what is less than the turned cursor is less than the cursor
  inside_more : (c d : Cursor) (r : Item) → left d ≤ left c → Inside image d r → Inside image c r
  inside_more c d (Item.Record e next) h o =
      record {
        sound = o.sound;
        less = omega (arith, o.less);
        name = o.name;
        data_len = o.data_len;
        fits = o.fits;
        pending =
            o.pending;
      }
  inside_more c d (Item.End t w) h o = o
  inside_more c d (Item.TornWrap t) h o = o
  inside_more c d (Item.Broken t w) h o = o

  -- ---- the two ways of a step

  module _ (c : Cursor) where
    pub advance_on : goes_on c.room (look image c) ≡ true
        → advance image c ≡ settle image (turn c.room c.pending) (look image (turn c.room c.pending))
    unfolding advance
    advance_on h = rw (h, advance)

    pub advance_here : goes_on c.room (look image c) ≡ false → advance image c ≡ settle image c (look image c)
    unfolding advance
    advance_here h = rw (h, advance)

    module _ (x : Next) (b : Bool) (s : CursorSound image c) (ex : x ≡ look image c) (eb : b ≡ goes_on c.room x) where
      pub advanced_on : (t : Cursor) (y : Next) (r : Item) → b ≡ true → t ≡ turn c.room c.pending → y ≡ look image t
          → r ≡ settle image t y
          → Within y (t.end - t.at)
          → (r ≡ advance image c) × Inside image c r
      advanced_on t y r h et ey er w =
          let u : Cursor = turn c.room c.pending in
          let e : r ≡ settle image u y = er ∙ ap (λ (k : Cursor). settle image k y) et in (
            e ∙ ap (settle image u) (ey ∙ ap (look image) et) ∙ sym (advance_on (ap (goes_on c.room) (sym ex) ∙ sym eb ∙ h)),
            subst (λ (z : Item). Inside image c z) (sym e)
                (inside_more c u (settle image u y) (omega arith)
                (inside_settle u y (sound_turn c s) (subst (λ (k : Cursor). Within y (k.end - k.at)) et w))),
          )

      pub advanced_here : (r : Item) → b ≡ false → r ≡ settle image c x → Within x (c.end - c.at)
          → (r ≡ advance image c) × Inside image c r
      advanced_here r h er w = (
        er ∙ ap (settle image c) ex ∙ sym (advance_here (ap (goes_on c.room) (sym ex) ∙ sym eb ∙ h)),
        subst (λ (z : Item). Inside image c z) (sym er) (inside_settle c x s w),
      )
