-- The way from one cursor to a later one, and the chain behind a byte that was written.
use Rattle.std.specs.Prelude.{ℕ, ◌+◌, ◌-◌, ◌≤◌, ◌<◌, ◌≡◌, refl, Bool, List, [], ◌∷◌, ◌++◌, set}
use Rattle.std.proofs.Common.{arith, sym, ap, ap₂, ◌∙◌, inl, inr, ⊎_elim}
use Rattle.spec.specs.declared.Next.{Next}
use Rattle.spec.specs.Step.{Image}
use Rattle.spec.specs.Record.{size_of, Entry}
use Rattle.laws.specs.Parts.{Outside}
use Rattle.chain.specs.declared.Cursor.{Cursor}
use Rattle.chain.specs.declared.Spot.{Spot}
use Rattle.chain.specs.declared.Item.{Item}
use Rattle.chain.specs.Cursor.{look, goes_on, past, settle, advance}
use Rattle.chain.specs.Fits.{look_inside}
use Rattle.chain.specs.Along as step
use Rattle.chain.specs.Along.{From, sought, from_advance, Reached, Way, way, reached, along}
use Rattle.chain.specs.Rest.{Run, entry_of, ahead, followed, rest, rest_step, rest_record}
use Rattle.recovery.specs.Trail.{Tidy, Ahead, from_tidy, tidy_seen, tidy_next, off_record, ahead_back, window_kept, entry_kept}
use Rattle.recovery.specs.Trail.{unfinished_kept, look_kept, step_again}

-- ---- the records from c up to d

pub data Path (image : Image) : Cursor → List Entry → Cursor → Type 0 where
  here : {c : Cursor} → Path image c [] c
  there : {c behind d : Cursor} {es : List Entry} (e : Spot) → advance image c ≡ Item.Record e behind → Path image behind es d
      → Path image c (entry_of image e ∷ es) d

pub path_snoc : {image : Image} {c d behind : Cursor} {es : List Entry} (e : Spot) → Path image c es d
    → advance image d ≡ Item.Record e behind
    → Path image c (es ++ (entry_of image e ∷ [])) behind
path_snoc e here h = there e h here
path_snoc e (there f g p) h = there f g (path_snoc e p h)

pub rest_path : {image : Image} {c d : Cursor} {es : List Entry} → Path image c es d → (rest image c).entries ≡ es ++ (rest image d).entries
rest_path here = refl
rest_path {image} {c} (there e h p) =
    ap (λ (r : Run). r.entries) (rest_record image c e _ h)
    ∙ ap (λ (l : List Entry). entry_of image e ∷ l) (rest_path p)

pub path_tidy : {image : Image} {c d : Cursor} {es : List Entry} → Path image c es d → Tidy c → Tidy d
path_tidy here t = t
path_tidy {image} {c} (there e h p) t = path_tidy p (tidy_next t (reached image c e _ h))

-- ---- a byte that is still ahead is written: the way stays

module _ (s : Image) (a b : ℕ) where
  module _ {c : Cursor} {e : Spot} {behind : Cursor} (tidy : Tidy c) (r : Reached s c e behind) (o : Ahead behind a) where
    off : Outside a r.seen.at (size_of e.n e.d)
    off = (off_record tidy r a o).0

    advance_kept : advance (set s a b) c ≡ Item.Record e behind
    advance_kept =
        step_again tidy r a b (off_record tidy r a o).1 (look_kept s r.seen e.n e.d r.what a b off)
        (unfinished_kept s a b r.seen.at
        (λ q. ⊎_elim (λ (u : a < r.seen.at). omega arith) (λ (u : r.seen.at + size_of e.n e.d ≤ a). omega arith) off))

    passed_kept : entry_of (set s a b) e ≡ entry_of s e
    passed_kept = entry_kept s a b e (rw r.at off)

  pub path_kept : {c d : Cursor} {es : List Entry} → Path s c es d → Tidy c → Ahead d a → Ahead c a × Path (set s a b) c es d
  path_kept here t o = (o, here)
  path_kept {c} {d} (there {behind = behind} {es = es} e h p) t o =
      let r = reached s c e behind h in
      let ih = path_kept p (tidy_next t r) o in
      let q : Path (set s a b) c (entry_of (set s a b) e ∷ es) d = there e (advance_kept t r ih.0) ih.1 in
      (ahead_back t r a (off_record t r a ih.0).1, rw (passed_kept t r ih.0) at q)

-- ---- a byte that was passed is written: the rest stays

-- address a is passed at c
pub record Passed (c : Cursor) (a : ℕ) : Type 0 where
  pub before : Outside a c.at (c.end - c.at)
  pub low : c.room ≤ a

module _ (s : Image) (a b : ℕ) where
  settle_same : (v : Cursor) (x : Next) → look s v ≡ x → Outside a v.at (v.end - v.at) → settle (set s a b) v x ≡ settle s v x
  settle_same v (Next.Record n d) l o =
      let f : size_of n d ≤ v.end - v.at = look_inside s v n d l in
      ap (λ (h : Bool). Item.Record (record { at = v.at; n = n; d = d }) (past v (size_of n d) h))
      (unfinished_kept s a b v.at (λ q. ⊎_elim (λ (u : a < v.at). omega arith) (λ (u : v.at + (v.end - v.at) ≤ a). omega arith) o))
  settle_same v Next.Wrap l o = refl
  settle_same v Next.TornWrap l o = refl
  settle_same v Next.Clear l o = refl
  settle_same v Next.Over l o = refl
  settle_same v Next.Bad l o = refl

  from_passed : {c d : Cursor} → From s c d → Passed c a → Passed d a
  from_passed (step.here e) p = p
  from_passed (step.turned e) p = record { before = inr (omega (arith, p.low)); low = omega arith }

  module _ (c : Cursor) (t : Tidy c) (p : Passed c a) where
    from_same : {d : Cursor} → From s c d → From (set s a b) c d
    from_same (step.here e) = step.here (ap (goes_on c.room) (window_kept s a b c t.ordered p.before) ∙ e)
    from_same (step.turned e) = step.turned (ap (goes_on c.room) (window_kept s a b c t.ordered p.before) ∙ e)

    advance_same : advance (set s a b) c ≡ advance s c
    advance_same =
        let w = sought s c in
        let v = w.seen in
        let o = (from_passed w.from p).before in
        from_advance (from_same w.from) ∙ ap (settle (set s a b) v) (window_kept s a b v (from_tidy w.from t).ordered o)
        ∙ settle_same v (look s v) refl o ∙ sym (from_advance w.from)

    -- the record at c, and what is behind it
    onward : {e : Spot} {behind : Cursor} (r : Reached s c e behind) → Passed behind a × (entry_of (set s a b) e ≡ entry_of s e)
    onward {e} r =
        let q = from_passed r.from p in
        let f = (tidy_seen t r).ordered in
        let z : ℕ = size_of e.n e.d in (
          rw r.next_is record {
            before =
                ⊎_elim (λ (u : a < r.seen.at). inl (omega arith))
                (λ (u : r.seen.at + (r.seen.end - r.seen.at) ≤ a). inr (omega (arith, r.fits))) q.before;
            low = q.low;
          },
          entry_kept s a b e (⊎_elim (λ (u : a < r.seen.at). inl (omega (arith, r.at)))
              (λ (u : r.seen.at + (r.seen.end - r.seen.at) ≤ a). inr (omega (arith, r.at, r.fits))) q.before),
        )

  pub rest_kept : (c : Cursor) → Tidy c → Passed c a → rest (set s a b) c ≡ rest s c
  rest_kept =
      along s (λ (c : Cursor). Tidy c → Passed c a → rest (set s a b) c ≡ rest s c)
      (λ c ih t p. rest_step (set s a b) c ∙ ap (λ (r : Item). followed (set s a b) r (rest (set s a b))) (advance_same c t p)
      ∙ go c t p (advance s c) (way s c) ih ∙ sym (rest_step s c))
    where
      go : (c : Cursor) → Tidy c → Passed c a → (r : Item) → Way s c r
          → ((e : Spot) (next : Cursor) → Reached s c e next → Tidy next → Passed next a → rest (set s a b) next ≡ rest s next)
          → followed (set s a b) r (rest (set s a b)) ≡ followed s r (rest s)
      go c t p (Item.Record e behind) w ih = let q = onward c t p w in ap₂ ahead q.1 (ih e behind w (tidy_next t w) q.0)
      go c t p (Item.End x u) w ih = refl
      go c t p (Item.TornWrap x) w ih = refl
      go c t p (Item.Broken x u) w ih = refl
