-- Step (a): the head's record, copied as in put. Where the copy lies, its phases, how many steps it is, and that it leaves the
-- head's first byte alone.
use Rattle.std.specs.Prelude.{ℕ, ◌+◌, ◌≤◌, ◌≡◌, refl, Bool, true, false, List, [], ◌∷◌, ◌++◌, length, take, drop, get_or}
use Rattle.std.proofs.Common.{arith, add-zero, sym, ap, ◌∙◌, inl, inr, ⊎_elim, length-append, get_or-take, get_or-drop}
use Rattle.std.proofs.Math.Option.{some}
use Rattle.spec.specs.declared.Place.{Place}
use Rattle.spec.specs.declared.Status.{Status}
use Rattle.spec.specs.Geometry.{up8}
use Rattle.spec.specs.Step.{Image, Step, shifted}
use Rattle.spec.specs.Bytes.{is_committed}
use Rattle.spec.specs.Record.{size_of, size, Entry, name_of, content_of}
use Rattle.spec.specs.Reading.{limit}
use Rattle.spec.specs.Place.{fits, address, with_marker}
use Rattle.spec.specs.Placed.{placed, placed_at}
use Rattle.spec.specs.Write.{status_step, migrate_steps, delete_steps, turn_steps, record_steps, put_steps}
use Rattle.flash.specs.declared.Meter.{Meter}
use Rattle.flash.specs.Did.{Did}
use Rattle.writing.specs.Answers.{old_at}
use Rattle.writing.specs.WriteSteps.{record_count}
use Rattle.writing.specs.Old.{bare, old_entry, migrate_few, put_old}
use Rattle.writing.specs.Placing.{Way, at_tail, at_start, way, placed_parts, marker_before_turn}
use Rattle.writing.specs.Put.{marks, marks_few, put_phases}
use Rattle.moving.specs.Untouched.{Off, Apart, Avoids, avoids_append, kept, writes_shifted, writes_avoids}
use Rattle.moving.specs.Copied.{entry_at, name_long, content_long, same_name, same_content, same_body, writes_record}
use Rattle.laws.specs.Tests.{either}
use Rattle.laws.specs.Parts.{Outside}

-- "copied as in put", of an entry x in its own place
abbrev pub copy_of : Place → Entry → List Step
copy_of p x = put_steps p (some x) (name_of x) (content_of x)

-- a record of size z at the head lies in the image, and before the turn it ends at the tail at most
pub record HeadEnds (p : Place) (z : ℕ) : Type 0 where
  pub inside : p.head + z ≤ p.length
  pub before : p.turned ≡ false → p.head + z ≤ p.tail

-- its copy has no byte in common with it
pub copy_apart : (p : Place) (z : ℕ) → HeadEnds p z → fits p z ≡ true → Apart p.head (address p z) z
copy_apart p z h e = go (way p z e) where
  here : (u : Bool) → p.turned ≡ u → p.tail + z ≤ limit p → Apart p.head p.tail z
  here true t l = inr (omega (arith, rw t at l))
  here false t l = inl (h.before t)

  go : Way p z → Apart p.head (address p z) z
  go (at_tail t a l) = rw a (here p.turned refl l)
  go (at_start t u a l) = rw a (inr (omega arith))

-- ---- what stands at the head is left alone by the F8 step, but for the status, and by the marker

migrate_avoids : (x : Entry) (i n : ℕ) → Outside (x.at + 2) i n → Avoids i n (migrate_steps (some x))
migrate_avoids x i n o = either (Avoids i n) (is_committed x.it.status) (status_step x 0xF8 ∷ []) [] (o, tt) tt

marks_avoid : (i n t : ℕ) (k : Bool) → (k ≡ true → i + n ≤ t) → Avoids i n (marks k t)
marks_avoid i n t true h =
    let l = h refl in
    (inr (omega arith), (inr (omega arith), (inr (omega arith), tt)))
marks_avoid i n t false h = tt

-- ---- the phases

-- how many steps a copied record is at most
pub copy_count : (s : Image) (a from n d : ℕ) → from + size_of n d ≤ length s
    → length (shifted a (record_steps (name_of (entry_at s from n d)) (content_of (entry_at s from n d)))) ≡ n + d + 10
copy_count s a from n d h =
    let x : Entry = entry_at s from n d in
    omega (arith, record_count a (name_of x) (content_of x), name_long s from n d h, content_long s from n d h)

module _ {s s₁ s₂ t : Image} {m a b r : Meter} (p : Place) (n d at : ℕ) (k : Bool) (q : Place)
    (ends : HeadEnds p (size_of n d)) (whole : p.length ≡ length s) (taken : fits p (size_of n d) ≡ true)
    (e : placed p (size_of n d) ≡ placed_at at k q) (st : Status) (is : st.byte ≡ get_or s (p.head + 2) 0) where
  pub copy_phases : Did s m (migrate_steps (old_entry (old_at p.head st)) ++ marks k p.tail) s₁ a
      → Did s₁ a (shifted at (record_steps (name_of (entry_at s₁ p.head n d)) (content_of (entry_at s₁ p.head n d)))) s₂ b
      → Did s₂ b (delete_steps (old_entry (old_at p.head st))) t r
      → Did s m (copy_of p (entry_at s p.head n d)) t r
  copy_phases before middle behind =
      let h = p.head in
      let x : Entry = entry_at s h n d in
      let old = old_entry (old_at h st) in
      let body = up8 (n + 1) + up8 d in
      let z = size_of n d in
      let marked : k ≡ true → h + 8 + body ≤ p.tail = (λ y.
      omega (arith, ends.before (marker_before_turn p z taken ((placed_parts p z at k q e).2 ∙ y)).0)) in
      let kept = same_body h n d before
      (avoids_append (h + 8) body (migrate_steps old) (marks k p.tail) (migrate_avoids (bare h st) (h + 8) body (inl (omega arith)))
      (marks_avoid (h + 8) body p.tail k marked)) in
      let middle' : Did s₁ a (shifted at (record_steps (name_of x) (content_of x))) s₂ b = rw
      (same_name n d (drop h s) (drop h s₁) kept, same_content n d (drop h s) (drop h s₁) kept) at middle in
      let fit : h + z ≤ length s = omega (arith, ends.inside) in
      let long : placed p (size x) ≡ placed_at at k q = rw (name_long s h n d fit, content_long s h n d fit) e in
      let status : st.byte ≡ x.it.status = is ∙ sym (get_or-drop h s 2 0) in
      let same = ap (λ (b : ℕ). put_steps p (old_entry (old_at h (record { byte = b }))) (name_of x) (content_of x)) status
      ∙ put_old p (some x) (name_of x) (content_of x) in
      rw same at (put_phases p old (name_of x) (content_of x) at k q long before middle' behind)

-- ---- how many steps it is

pub copy_few : (p : Place) (x : Entry) → length (copy_of p x) ≤ length (name_of x) + length (content_of x) + 15
unfolding put_steps
copy_few p x =
    let z : ℕ = size x in
    let written : List Step = shifted (address p z) (record_steps (name_of x) (content_of x)) in
    let end : List Step = delete_steps (some x) in
    omega (
      arith,
      length-append (migrate_steps (some x)) (turn_steps p z ++ (written ++ end)),
      length-append (turn_steps p z) (written ++ end),
      length-append written end,
      record_count (address p z) (name_of x) (content_of x),
      migrate_few (some x),
      marks_few (with_marker p z) p.tail,
    )

-- ---- the byte at the head

copy_avoids : (p : Place) (x : Entry) → x.at ≡ p.head → HeadEnds p (size x) → fits p (size x) ≡ true → Avoids x.at 1 (copy_of p x)
unfolding put_steps
copy_avoids p x e h f =
    let z : ℕ = size x in
    let a : ℕ = address p z in
    let off : Off (a + 0) (a + z) x.at 1 = ⊎_elim (λ (l : p.head + z ≤ a). inl (omega arith))
    (λ (l : a + z ≤ p.head). inr (omega arith))
    (copy_apart p z h f) in
    let written : List Step = shifted a (record_steps (name_of x) (content_of x)) in
    let marked : with_marker p z ≡ true → x.at + 1 ≤ p.tail = λ m. omega (arith, h.before (marker_before_turn p z f m).0) in
    avoids_append x.at 1 (migrate_steps (some x)) (turn_steps p z ++ (written ++ delete_steps (some x)))
    (migrate_avoids x x.at 1 (inr (omega arith)))
    (avoids_append x.at 1 (turn_steps p z) (written ++ delete_steps (some x)) (marks_avoid x.at 1 p.tail (with_marker p z) marked)
    (avoids_append x.at 1 written (delete_steps (some x))
    (writes_avoids (a + 0) (a + z) x.at 1 written off
    (writes_shifted a 0 z (record_steps (name_of x) (content_of x)) (writes_record (name_of x) (content_of x) z refl)))
    (inr (omega arith), tt)))

one_kept : {s t : Image} {m r : Meter} {ss : List Step} (h : ℕ) → Did s m ss t r → Avoids h 1 ss → get_or t h 0 ≡ get_or s h 0
one_kept {s} {t} h d a = byte t ∙ ap (λ (l : List ℕ). get_or l 0 0) (kept h 1 d a) ∙ sym (byte s) where
  byte : (u : Image) → get_or u h 0 ≡ get_or (take 1 (drop h u)) 0 0
  byte u = sym (get_or-take 1 (drop h u) 0 0 (omega arith) ∙ get_or-drop h u 0 0 ∙ ap (λ (i : ℕ). get_or u i 0) (add-zero h))

pub copy_keeps_low : {s t : Image} {m r : Meter} (p : Place) (x : Entry) → x.at ≡ p.head → HeadEnds p (size x) → fits p (size x) ≡ true
    → Did s m (copy_of p x) t r
    → get_or t x.at 0 ≡ get_or s x.at 0
copy_keeps_low p x e h f d = one_kept x.at d (copy_avoids p x e h f)
