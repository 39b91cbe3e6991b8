-- Steps (b) to (f) of a move.
use Rattle.std.specs.Prelude.{ℕ, ◌+◌, ◌*◌, ◌≤◌, ◌<◌, ◌≡◌, refl, List, [], ◌∷◌, length, take, drop, get_or}
use Rattle.std.proofs.Common.{arith, sym, ◌∙◌, inl, inr, ⊎_elim}
use Rattle.std.proofs.Math.Path.{ap, ap₂}
use Rattle.spec.specs.Step.{Image, program, run}
use Rattle.spec.specs.Geometry.{up8}
use Rattle.spec.specs.Record.{size_of, Entry}
use Rattle.spec.specs.Chain.{reading_from}
use Rattle.spec.specs.Move.{clean_steps, close_steps}
use Rattle.laws.specs.Parts.{Outside}
use Rattle.flash.specs.declared.Meter.{Meter}
use Rattle.flash.specs.Did.{Did, did_none, did_both, did_all}
use Rattle.flash.specs.Meters.{AskedMost, Enough}
use Rattle.chain.specs.declared.Cursor.{Cursor}
use Rattle.chain.specs.declared.Spot.{Spot}
use Rattle.chain.specs.declared.Item.{Item}
use Rattle.chain.specs.Cursor.{advance}
use Rattle.chain.specs.Rest.{entry_of}
use Rattle.chain.specs.Fold.{NotRecord}
use Rattle.reading.specs.Read.{first_cursor}
use Rattle.moving.specs.Untouched.{kept}
use Rattle.moving.specs.Clean.{cleaned_is}
use Rattle.moving.specs.Close.{close_same, close_low}
use Rattle.moving.specs.declared.NewHead.{NewHead}
use Rattle.chain.specs.Along.{reached}
use Rattle.reading.specs.FirstRecord.{apart, second_even}
use Rattle.sweeping.specs.MoveSteps.{hand_steps, hand_head, handing, heading}
use Rattle.reading.specs.Standing.{Led, Taken, stands, none_listed, one_listed, two_listed}

pub record Handed (s : Image) (h : ℕ) (m : Meter) (t : Image) (r : NewHead) : Type 0 where
  pub did : Did s m (handing s h) t r.meter
  pub head : r.head ≡ heading s h
  pub led : Enough r.meter → Led t r.head
  pub few : AskedMost m r.meter (2 * length s + 4)

-- ---- how the code comes to it

module _ {s : Image} {h : ℕ} (w : Led s h) (m : Meter) where
  none_handed : (es : List Entry) → (reading_from s h).entries ≡ es → hand_head h es ≡ h → ((N : ℕ) → hand_steps N es ≡ [])
      → Handed s h m s (record { head = h; meter = m })
  unfolding handing heading
  none_handed es e b f =
      record {
        did = rw (e, f (reading_from s h).place.length) (did_none s m);
        head = rw e (sym b);
        led = λ l. w;
        few = omega arith;
      }

  pub hand_none : {k : Cursor} (q : Item) → k ≡ first_cursor s h → q ≡ advance s k → NotRecord q
      → Handed s h m s (record { head = h; meter = m })
  hand_none q f e z = none_handed [] (none_listed s h w q f e z) refl (λ N. refl)

  module _ {x : Spot} {c : Cursor} (t : Taken s (first_cursor s h) x c) where
    pub hand_one : (q : Item) → q ≡ advance s c → NotRecord q → Handed s h m s (record { head = h; meter = m })
    hand_one q e z = none_handed (entry_of s x ∷ []) (one_listed s h w t q e z) refl (λ N. refl)

    module _ {y : Spot} {d : Cursor} (u : Taken s c y d) where
      -- Y's first byte is none of X's data
      same_data : {v : Image} {a : Meter} → Did s m (program y.at 0xA0 ∷ []) v a
          → take x.d (drop (x.at + 8 + up8 (x.n + 1)) v) ≡ take x.d (drop (x.at + 8 + up8 (x.n + 1)) s)
      same_data g =
          let o = apart s h w.inside w.low x c (reached s (first_cursor s h) x c t.step) y d (reached s c y d u.step) in
          let off : Outside y.at (x.at + 8 + up8 (x.n + 1)) x.d =
          ⊎_elim (λ (l : x.at + size_of x.n x.d ≤ y.at). inr (omega arith)) (λ (l : y.at < x.at). inl (omega arith)) o in
          kept (x.at + 8 + up8 (x.n + 1)) x.d g (off, tt)

      same_close : {v : Image} {a : Meter} → length v ≡ length s → Did s m (program y.at 0xA0 ∷ []) v a
          → close_steps (length v) (entry_of v x) (entry_of v y) 0xA0 ≡ close_steps (length s) (entry_of s x) (entry_of s y) 0xA0
      same_close {v} l g =
          close_same s x y 0xA0 v l (cleaned_is v x (record { fits = omega (arith, t.passes.whole.fits) }) refl
          ∙ ap (clean_steps x.d (x.at + 8 + up8 (x.n + 1))) (same_data g) ∙ sym (cleaned_is s x t.passes.whole refl))

      handing_is : handing s h ≡ program y.at 0xA0 ∷ close_steps (length s) (entry_of s x) (entry_of s y) 0xA0
      unfolding handing
      handing_is = ap₂ hand_steps (stands s h w).whole (two_listed s h w t u)

      heading_is : heading s h ≡ y.at
      unfolding heading
      heading_is = ap (hand_head h) (two_listed s h w t u)

      pub hand_two : {v z : Image} {a q : Meter} → length v ≡ length s → length z ≡ length s → Did s m (program y.at 0xA0 ∷ []) v a
          → Did v a (close_steps (length v) (entry_of v x) (entry_of v y) 0xA0) z q → AskedMost a q (2 * length v + 3)
          → Handed s h m z (record { head = y.at; meter = q })
      hand_two {v} {z} {a} {q} l k g i b =
          let did : Did s m (handing s h) z q = rw handing_is (did_both g (rw (same_close l g) at i)) in
          let low : Enough q → get_or z y.at 0 ≡ 0 = λ n.
          let j : z ≡ run (run s (program y.at 0xA0 ∷ [])) (close_steps (length s) (entry_of s x) (entry_of s y) 0xA0) = did_all did n
          ∙ ap (run s) handing_is in
          ap (λ (i : Image). get_or i y.at 0) j
          ∙ close_low (run s (program y.at 0xA0 ∷ [])) (length s) (entry_of s x) (entry_of s y)
          (omega (arith, ap length j, u.passes.whole.fits)) in
          record {
            did = did;
            head = sym heading_is;
            led = λ n.
                record {
                  even =
                      second_even s h w.inside w.low x c (reached s (first_cursor s h) x c t.step) w.even y d
                      (reached s c y d u.step);
                  inside = omega (arith, u.passes.whole.fits);
                  low = inl (low n);
                  eights = rw k w.eights;
                  long = omega (arith, w.long);
                  small = omega (arith, w.small);
                };
            few = omega (arith, g.count, b);
          }
