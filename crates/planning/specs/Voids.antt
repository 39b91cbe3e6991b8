-- Repair 3 on one record: if it is torn or reserved it is dead afterwards, and all else is as it was.
use Prim.Native.Nat.{ℕ, zero, suc, ◌+◌, ◌≤◌, ◌<◌}
use native.Mathlib.Omega.{arith}
use Rattle.std.proofs.Common.{add-zero, ◌∙◌, subst, inl, inr, ⊎_elim, get_or-drop}
use Rattle.std.specs.Prelude.{◌≡◌, Bool, drop, eqb}
use Rattle.std.proofs.Math.Path.{refl, sym, ap, ap₂}
use Rattle.std.proofs.Math.Bool.{true, false}
use Rattle.std.proofs.lemmas.Bool.{false≢true}
use mathlib.Core.List.{List}
use Rattle.std.proofs.Math.ListN.{length, get_or, length-drop}
use Rattle.spec.specs.declared.Next.{Next}
use Rattle.spec.specs.declared.Kind.{Kind}
use Rattle.spec.specs.Step.{Image, Step, shifted, run}
use Rattle.spec.specs.Basics.{long, part}
use Rattle.spec.specs.Bytes.{is_record_begun}
use Rattle.spec.specs.Bytes.{is_erased, is_reserved, is_spare, is_unfinished, ends_name}
use Rattle.spec.specs.Record.{Entry, name_of, content_of, size, data_at, name_length, data_len_of, four}
use Rattle.spec.specs.Next.{next_at, sized, torn_at}
use Rattle.spec.specs.Mount.{status_void_steps, torn_steps, missing_steps, reserved_steps, void_steps}
use Rattle.laws.specs.Next.{sized_is}
use Rattle.laws.specs.Parts.{Outside}
use Rattle.planning.specs.Planned.{with_status, with_low, dead_if, void_by}
use Rattle.planning.specs.Front.{bad_other, sized_back}
use Rattle.planning.specs.Kinds.{finished_open, dead_finished, new_kind, kind_tag, kind_reserved, torn_kind}
use Rattle.planning.specs.Row.{stretch_length, stretch_byte, kind_at, Stands}
use Rattle.planning.specs.Spots.{next_kind, name_by, name_inner, stands_new, stands_kind}
use Rattle.planning.specs.Effect.{Bounded, untouched_append, writes_right, bounded_append, run_length, untouched_run, writes_run}
use Rattle.planning.specs.Effect.{skips, last_programs}
use Rattle.planning.specs.Ends.{torn_off, torn_bounded, torn_keeps, torn_writes, torn_lens, missing_off, missing_bounded, missing_end}

-- an unfinished record is dead, all else is as it was
pub record Voids (im left : Image) (e : Entry) : Type 0 where
  pub len : length left ≡ length im
  pub same : (i : ℕ) → Outside i e.at (size e) → get_or left i 0 ≡ get_or im i 0
  pub stands : (lim : ℕ) → lim ≤ length im → Stands im lim e
      → Stands left lim (void_by (is_erased e.it.status) (is_unfinished e.it.status) e)

-- ---- a torn one

-- it is read as a record with no name and no data
pub record Torn (im : Image) (e : Entry) : Type 0 where
  pub low : is_record_begun (get_or im e.at 0) ≡ true
  pub spare : is_spare (get_or im (e.at + 3) 0) ≡ true
  pub name : length (name_of e) ≡ 0
  pub content : length (content_of e) ≡ 0

torn_empty : (s : List ℕ) (n d : ℕ) (u : Bool) → long 16 s ≡ u → torn_at s ≡ Next.Record n d → (n ≡ 0) × (d ≡ 0)
unfolding torn_at
torn_empty s n d true e h = let q : Next.Record 0 0 ≡ Next.Record n d = rw (torn_at, e) at h in (cc, cc)
torn_empty s n d false e h = bad_other (rw (torn_at, e)) h

pub torn_is : {im : Image} {lim : ℕ} {e : Entry} → lim ≤ length im → Stands im lim e → is_erased e.it.status ≡ true → Torn im e
unfolding next_at
torn_is {im} {lim} {e} l w h =
    let s : List ℕ = part e.at lim im in
    let n : ℕ = length (name_of e) in
    let d : ℕ = length (content_of e) in
    let here = stands_kind l w in
    let k =
    torn_kind (get_or im e.at 0) (get_or im (e.at + 1) 0) (get_or im (e.at + 2) 0) (get_or im (e.at + 3) 0) (ap is_erased w.status ∙ h)
    (kind_tag s (kind_at im e.at) (Next.Record n d) here (λ q. omega arith)) in
    let z = torn_empty s n d _ refl (sym (ap (λ (x : Kind). next_at x s) k.0) ∙ here) in
    record { low = k.1; spare = k.2; name = z.0; content = z.1 }

zero_ends : (b : ℕ) → b ≡ 0 → ends_name false b ≡ true
unfolding ends_name
zero_ends b e = rw e

no_fours : (d j : ℕ) → d ≡ 0 → j < 4 → get_or (four d) j 0 ≡ 0
no_fours d zero e h = rw e
no_fours d (suc zero) e h = rw e
no_fours d (suc (suc zero)) e h = rw e
no_fours d (suc (suc (suc zero))) e h = rw e
no_fours d (suc (suc (suc (suc j)))) e h = absurd (omega arith)

module _ (im : Image) (e : Entry) (t : is_erased e.it.status ≡ true) (n : length (name_of e) ≡ 0) (d : length (content_of e) ≡ 0) where
  abbrev mended_torn : Image
  mended_torn = run im (shifted e.at torn_steps)

  abbrev ok : Bounded (length im) (shifted e.at torn_steps)
  ok = torn_bounded (length im) e.at

  torn_stands : (lim : ℕ) → lim ≤ length im → Stands im lim e → Stands mended_torn lim (with_low 0xA5 (with_status 0x00 e))
  unfolding last_programs skips
  torn_stands lim l w =
      let v : Torn im e = torn_is l w t in
      let len : length mended_torn ≡ length im = run_length im (shifted e.at torn_steps) ok in
      let byte : (i x : ℕ) → last_programs torn_steps i x ≡ true → i < 16 → get_or mended_torn (e.at + i) 0 ≡ x =
      λ i x h g. writes_run im (shifted e.at torn_steps) (e.at + i) x (omega (arith, w.fits)) ok (torn_writes e.at i x h) in
      let b_0 : get_or mended_torn e.at 0 ≡ 0xA5 =
      ap (λ (i : ℕ). get_or mended_torn i 0) (sym (add-zero e.at)) ∙ byte 0 0xA5 refl (omega arith) in
      let b_1 : get_or mended_torn (e.at + 1) 0 ≡ 0x5A = byte 1 0x5A refl (omega arith) in
      let b_2 : get_or mended_torn (e.at + 2) 0 ≡ 0x00 = byte 2 0x00 refl (omega arith) in
      let b_3 : get_or mended_torn (e.at + 3) 0 ≡ get_or im (e.at + 3) 0 =
      untouched_run im (shifted e.at torn_steps) (e.at + 3) ok (torn_keeps e.at) in
      let b_8 : get_or mended_torn (e.at + 8) 0 ≡ 0x00 = byte 8 0x00 refl (omega arith) in
      stands_new (omega arith) w.fits (omega arith) (λ i g. absurd (omega arith)) (omega arith)
      (record {
        kind = rw (b_0, b_1, b_2, b_3) (new_kind 0x00 (get_or im (e.at + 3) 0) v.spare dead_finished);
        low = b_0;
        status = b_2;
        lens =
            λ j g.
            writes_run im (shifted e.at torn_steps) (e.at + (4 + j)) 0x00 (omega (arith, w.fits)) ok (torn_lens e.at j g)
            ∙ sym (no_fours (length (content_of e)) j d g);
        name = λ i g. absurd (omega arith);
        end =
            zero_ends (get_or mended_torn (e.at + (8 + length (name_of e))) 0)
            (ap (λ (k : ℕ). get_or mended_torn (e.at + (8 + k)) 0) n ∙ b_8);
        content = λ i g. absurd (omega arith);
      })

  torn_voids : Voids im mended_torn e
  torn_voids =
      record {
        len = run_length im (shifted e.at torn_steps) ok;
        same =
            λ i o.
            untouched_run im (shifted e.at torn_steps) i ok
            (torn_off e.at i (⊎_elim (λ (h : i < e.at). inl h) (λ (h : e.at + size e ≤ i). inr (omega arith)) o));
        stands =
            λ lim l w.
            subst (λ (u : Bool). Stands mended_torn lim (void_by u (is_unfinished e.it.status) e)) (sym t) (torn_stands lim l w);
      }

-- ---- a reserved one

reserved_open : (st : ℕ) → is_erased st ≡ false → is_reserved st ≡ true → is_unfinished st ≡ true
unfolding is_unfinished
reserved_open st e f = rw (is_unfinished, e, f)

-- no byte before a name's end ends it, for a finished record neither
ends_less : (b : ℕ) → ends_name true b ≡ false → ends_name false b ≡ false
unfolding ends_name
ends_less b h = go (eqb b 0) refl where
  go : (t : Bool) → eqb b 0 ≡ t → ends_name false b ≡ false
  go true e = absurd (false≢true (sym (rw (ends_name, e) at h)))
  go false e = rw (ends_name, e)

module _ (im : Image) (e : Entry) (t : is_erased e.it.status ≡ false) (f : is_reserved e.it.status ≡ true) where
  abbrev end_at : ℕ
  end_at = e.at + (8 + length (name_of e))

  abbrev status_only : List Step
  status_only = status_void_steps (e.at + 2) 0xFE

  abbrev mended_reserve : Image
  mended_reserve = run im (reserved_steps im e)

  reserve_ok : Bounded (length im) (reserved_steps im e)
  reserve_ok = bounded_append (length im) (missing_steps im end_at) status_only (missing_bounded (length im) im end_at) tt

  reserve_same : (i : ℕ) → (i ≡ end_at → ⊥) → (i ≡ e.at + 2 → ⊥) → get_or mended_reserve i 0 ≡ get_or im i 0
  reserve_same i p q =
      untouched_run im (reserved_steps im e) i reserve_ok
      (untouched_append i (missing_steps im end_at) status_only (missing_off im end_at i p) (q, (q, tt)))

  reserve_stands : (lim : ℕ) → lim ≤ length im → Stands im lim e → Stands mended_reserve lim (with_status 0x00 e)
  unfolding next_at
  reserve_stands lim l w =
      let n : ℕ = length (name_of e) in
      let d : ℕ = length (content_of e) in
      let s : List ℕ = part e.at lim im in
      let s' : List ℕ = part e.at lim mended_reserve in
      let len : length mended_reserve ≡ length im = run_length im (reserved_steps im e) reserve_ok in
      let st : is_erased (get_or im (e.at + 2) 0) ≡ false = ap is_erased w.status ∙ t in
      let rs : is_reserved (get_or im (e.at + 2) 0) ≡ true = ap is_reserved w.status ∙ f in
      let by = stands_kind l w in
      let k = kind_reserved (get_or im e.at 0) (get_or im (e.at + 1) 0) (get_or im (e.at + 2) 0) (get_or im (e.at + 3) 0) s by st rs in
      let z =
      sized_back s (name_length 64 true (drop 8 s)) (data_len_of s) n d _ _ refl refl (sym (ap (λ (x : Kind). next_at x s) k.0) ∙ by) in
      let l-1 = stretch_length im e.at lim (omega (arith, w.fits)) l in
      let l-2 = stretch_length mended_reserve e.at lim (omega (arith, w.fits)) (omega arith) in
      let b_2 : get_or mended_reserve (e.at + 2) 0 ≡ 0 =
      writes_run im (reserved_steps im e) (e.at + 2) 0 (omega (arith, w.fits)) reserve_ok
      (writes_right (missing_steps im end_at) status_only (e.at + 2) 0 (inl (inr (refl, refl, tt)))) in
      let b-n : get_or mended_reserve end_at 0 ≡ 0 =
      missing_end im end_at status_only (omega (arith, w.fits)) tt (λ q. omega arith, (λ q. omega arith, tt)) in
      let same : (i : ℕ) → (i ≡ 2 → ⊥) → (i ≡ 8 + n → ⊥) → get_or mended_reserve (e.at + i) 0 ≡ get_or im (e.at + i) 0 =
      λ i p q. reserve_same (e.at + i) (λ r. q (omega arith)) (λ r. p (omega arith)) in
      let byte : (i : ℕ) → i < size e → get_or s' i 0 ≡ get_or mended_reserve (e.at + i) 0 =
      λ i g. stretch_byte mended_reserve e.at lim i (omega (arith, w.fits)) in
      let old : (i : ℕ) → i < size e → (i ≡ 2 → ⊥) → (i ≡ 8 + n → ⊥) → get_or s' i 0 ≡ get_or s i 0 =
      λ i g p q. byte i g ∙ same i p q ∙ sym (stretch_byte im e.at lim i (omega (arith, w.fits))) in
      let b_0 : get_or mended_reserve e.at 0 ≡ get_or im e.at 0 = reserve_same e.at (λ q. omega arith) (λ q. omega arith) in
      let kd : kind_at mended_reserve e.at ≡ Kind.Record =
      rw (b_0, same 1 (λ q. omega arith) (λ q. omega arith), b_2, same 3 (λ q. omega arith) (λ q. omega arith)) k.1 in
      let nl : name_length 64 false (drop 8 s') ≡ n =
      name_by 64 (drop 8 s') n z.short (rw length-drop (omega (arith, w.fits)))
      (λ i g.
      ap (ends_name false) (get_or-drop 8 s' i 0 ∙ old (8 + i) (omega arith) (λ q. omega arith) (λ q. omega arith) ∙ sym (get_or-drop 8 s i 0))
      ∙ ends_less (get_or (drop 8 s) i 0) (name_inner true 64 (drop 8 s) n z.name i g (rw length-drop (omega (arith, w.fits)))))
      (zero_ends (get_or (drop 8 s') n 0) (get_or-drop 8 s' n 0 ∙ byte (8 + n) (omega arith) ∙ b-n)) in
      let dl : data_len_of s' ≡ d =
      omega (
        arith,
        z.data_len,
        old 4 (omega arith) (λ q. omega arith) (λ q. omega arith),
        old 5 (omega arith) (λ q. omega arith) (λ q. omega arith),
        old 6 (omega arith) (λ q. omega arith) (λ q. omega arith),
        old 7 (omega arith) (λ q. omega arith) (λ q. omega arith),
      ) in
      record {
        reads =
            next_kind mended_reserve e.at lim (omega arith) (omega (arith, w.fits)) ∙ ap (λ (x : Kind). next_at x s') kd
            ∙ ap₂ (sized s') nl dl
            ∙ sized_is s' n d z.short (omega (arith, w.fits));
        fits = w.fits;
        low = b_0 ∙ w.low;
        status = b_2;
        name = λ i g. same (8 + i) (λ q. omega arith) (λ q. omega arith) ∙ w.name i g;
        content = λ i g. reserve_same (data_at e + i) (λ q. omega arith) (λ q. omega arith) ∙ w.content i g;
      }

  reserve_voids : Voids im mended_reserve e
  reserve_voids =
      record {
        len = run_length im (reserved_steps im e) reserve_ok;
        same =
            λ i o.
            reserve_same i
            (⊎_elim (λ (h : i < e.at). λ q. omega arith) (λ (h : e.at + size e ≤ i). λ q. omega arith) o)
            (⊎_elim (λ (h : i < e.at). λ q. omega arith) (λ (h : e.at + size e ≤ i). λ q. omega arith) o);
        stands =
            λ lim l w.
            subst (λ (u : Bool). Stands mended_reserve lim (void_by u (is_unfinished e.it.status) e)) (sym t)
            (subst (λ (u : Bool). Stands mended_reserve lim (dead_if u e)) (sym (reserved_open e.it.status t f))
            (reserve_stands lim l w));
      }

-- ---- every record that stands, after its own steps

module _ {im : Image} {lim : ℕ} {e : Entry} (l : lim ≤ length im) (w : Stands im lim e) where
  abbrev void_left : Image
  void_left = run im (void_steps im e)

  finished_voids : is_erased e.it.status ≡ false → is_unfinished e.it.status ≡ false → Voids im im e
  finished_voids t h =
      record {
        len = refl;
        same = λ i o. refl;
        stands = λ k g v. subst (λ (p : Bool × Bool). Stands im k (void_by p.0 p.1 e)) (sym (ap₂ (λ (a b : Bool). (a, b)) t h)) v;
      }

  pub void_voids : Voids im void_left e
  unfolding void_steps
  void_voids = go _ _ refl refl where
    go : (t u : Bool) → is_erased e.it.status ≡ t → is_reserved e.it.status ≡ u → Voids im void_left e
    go true u p q =
        let z : Torn im e = torn_is l w p in
        rw (void_steps, p) (torn_voids im e p z.name z.content)
    go false true p q = rw (void_steps, p, q) (reserve_voids im e p q)
    go false false p q = rw (void_steps, p, q) (finished_voids p (finished_open e.it.status p q))
