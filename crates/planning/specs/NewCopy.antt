-- What the steps of a copy leave: the bytes of the copy, of the marker before it, and of X; so the copy is read as a record.
use Rattle.std.specs.Prelude.{ℕ, ◌+◌, ◌≤◌, ◌<◌, ◌≡◌, true, false, List}
use Rattle.std.proofs.Common.{arith, add-zero, sym, ◌∙◌, inl, ⊎_elim}
use Rattle.std.proofs.Math.Path.{refl, ap}
use Rattle.std.proofs.Math.Logic.{inr}
use Rattle.std.proofs.Math.Option.{some}
use Rattle.std.proofs.Math.ListN.{length, get_or}
use Rattle.spec.specs.declared.Next.{Next}
use Rattle.spec.specs.declared.Place.{Place}
use Rattle.spec.specs.Step.{Image, Step, run}
use Rattle.spec.specs.Basics.{part}
use Rattle.spec.specs.Geometry.{up8}
use Rattle.spec.specs.Bytes.{is_spare, ends_name}
use Rattle.spec.specs.Record.{Entry, name_of, content_of, size}
use Rattle.spec.specs.Next.{next}
use Rattle.spec.specs.Place.{address, with_marker}
use Rattle.spec.specs.Write.{marker_steps, record_steps, put_steps}
use Rattle.laws.specs.Parts.{Outside}
use Rattle.planning.specs.Planned.{copy_of}
use Rattle.planning.specs.Kinds.{committed_finished, new_kind}
use Rattle.planning.specs.Row.{Stands}
use Rattle.planning.specs.Spots.{Nameable, next_wrap, LaidDown, stands_new}
use Rattle.planning.specs.Effect.{Writes, Bounded, run_length, untouched_run, writes_run, untouched_shifted, skips}
use Rattle.planning.specs.Effect.{last_programs}
use Rattle.planning.specs.Effect.{last_writes}
use Rattle.planning.specs.Copy.{record_off, record_low, record_high, record_status, record_lens, record_name, record_end}
use Rattle.planning.specs.Copy.{record_content}
use Rattle.planning.specs.Copy.{put_deletes, put_writes, put_marks, put_off, put_bounded, copy_off}

ends_zero : ends_name false 0 ≡ true
unfolding ends_name
ends_zero = refl

module _ (im : Image) (p : Place) (x : Entry) where
  abbrev nm : List ℕ
  nm = name_of x

  abbrev ct : List ℕ
  ct = content_of x

  abbrev steps : List Step
  steps = put_steps p (some x) nm ct

  abbrev pub new : Image
  new = run im steps

  abbrev at : ℕ
  at = address p (size x)

  ok : Bounded (length im) steps
  ok = put_bounded p x nm ct (length im)

  pub new_length : length new ≡ length im
  new_length = run_length im steps ok

  pub new_same : (i : ℕ) → (i ≡ x.at + 2 → ⊥) → Outside i at (size x) → (with_marker p (size x) ≡ true → Outside i p.tail 3)
      → get_or new i 0 ≡ get_or im i 0
  new_same i n o m = untouched_run im steps i ok (put_off p x nm ct i n (copy_off p x nm ct i o) m)

  pub new_status : x.at + 2 < length im → get_or new (x.at + 2) 0 ≡ 0x00
  new_status h = writes_run im steps (x.at + 2) 0x00 h ok (put_deletes p x nm ct)

  -- the marker
  module _ (m : with_marker p (size x) ≡ true) (h : p.tail + 8 ≤ length im)
      (far : (i : ℕ) → i < 4 → (p.tail + i ≡ x.at + 2 → ⊥) × Outside (p.tail + i) at (size x)) where
    mark : (i b : ℕ) → last_programs marker_steps i b ≡ true → i < 3 → get_or new (p.tail + i) 0 ≡ b
    mark i b e g =
        let f = far i (omega arith) in
        writes_run im steps (p.tail + i) b (omega arith) ok (put_marks p x nm ct m i b (last_writes marker_steps i b e) f.0 f.1)

    pub new_wrap : get_or im (p.tail + 3) 0 ≡ 0xFF → next (part p.tail (length new) new) ≡ Next.Wrap
    unfolding last_programs skips
    new_wrap e =
        let f = far 3 (omega arith) in
        next_wrap new p.tail (length new) (omega arith) (omega (arith, new_length))
        (ap (λ (i : ℕ). get_or new i 0) (sym (add-zero p.tail)) ∙ mark 0 0xFA refl (omega arith)) (mark 1 0x5A refl (omega arith))
        (mark 2 0xF0 refl (omega arith)) (new_same (p.tail + 3) f.0 f.1 (λ q. inr (omega arith)) ∙ e)

  -- the copy
  module _ (h : at + size x ≤ length im) (far : Outside (x.at + 2) at (size x))
      (m : with_marker p (size x) ≡ true → Outside (at + 3) p.tail 3) where
    apart : (i : ℕ) → i < size x → at + i ≡ x.at + 2 → ⊥
    apart i l q = ⊎_elim (λ (o : x.at + 2 < at). omega arith) (λ (o : at + size x ≤ x.at + 2). omega arith) far

    byte : (i b : ℕ) → i < size x → Writes (record_steps nm ct) i b → get_or new (at + i) 0 ≡ b
    byte i b l w = writes_run im steps (at + i) b (omega arith) ok (put_writes p x nm ct i b (apart i l) w)

    -- its fourth byte stays
    spare : get_or new (at + 3) 0 ≡ get_or im (at + 3) 0
    spare =
        untouched_run im steps (at + 3) ok
        (put_off p x nm ct (at + 3) (apart 3 (omega arith)) (untouched_shifted at 3 (record_steps nm ct) (record_off nm ct 3 (inl refl))) m)

    laid : get_or im (at + 3) 0 ≡ 0xFF → LaidDown new (copy_of p x)
    unfolding is_spare
    laid e =
        let low : get_or new at 0 ≡ 0xA5 =
        ap (λ (i : ℕ). get_or new i 0) (sym (add-zero at)) ∙ byte 0 0xA5 (omega arith) (record_low nm ct) in
        let st : get_or new (at + 2) 0 ≡ 0xFC = byte 2 0xFC (omega arith) (record_status nm ct) in
        record {
          kind = rw (low, byte 1 0x5A (omega arith) (record_high nm ct), st, spare ∙ e) (new_kind 0xFC 0xFF refl committed_finished);
          low = low;
          status = st;
          lens = λ j l. byte (4 + j) _ (omega arith) (record_lens nm ct j l);
          name = λ i l. byte (8 + i) _ (omega arith) (record_name nm ct i l);
          end = ap (ends_name false) (byte (8 + length nm) 0x00 (omega arith) (record_end nm ct)) ∙ ends_zero;
          content =
              λ i l.
              ap (λ (k : ℕ). get_or new k 0) (omega arith) ∙ byte (8 + up8 (length nm + 1) + i) _ (omega arith) (record_content nm ct i l);
        }

    pub new_stands : (lim : ℕ) → at + size x ≤ lim → lim ≤ length im → (length nm < 64) × Nameable nm → length ct < 4294967296
        → get_or im (at + 3) 0 ≡ 0xFF → Stands new lim (copy_of p x)
    new_stands lim fits l known small e = stands_new (omega (arith, new_length)) fits known.0 known.1 small (laid e)
