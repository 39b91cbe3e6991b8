-- The records of a chain: only the last may be unfinished, and the first byte of one that is finished is a record's, START or CLEAN.
use Rattle.std.specs.Prelude.{ℕ, ◌-◌, ◌≡◌, refl, Bool, true, false, ◌||◌, List, [], ◌∷◌, take, drop}
use Rattle.std.proofs.Common.{arith, ap, ◌∙◌, get_or-take}
use Rattle.std.proofs.Math.Path.{sym}
use Rattle.spec.specs.declared.Next.{Next}
use Rattle.spec.specs.Step.{Image}
use Rattle.spec.specs.Basics.{Each}
use Rattle.spec.specs.Bytes.{is_record, is_start, is_clean, is_unfinished}
use Rattle.spec.specs.Record.{Entry, low_of, status_of}
use Rattle.spec.specs.Next.{next}
use Rattle.spec.specs.Chain.{allowed}
use Rattle.laws.specs.Tests.{wrong}
use Rattle.laws.specs.Parts.{part_window}
use Rattle.laws.specs.Settled.{last_open}
use Rattle.chain.specs.declared.Cursor.{Cursor}
use Rattle.chain.specs.declared.Spot.{Spot}
use Rattle.chain.specs.declared.Item.{Item}
use Rattle.chain.specs.Cursor.{window, look, advance, CursorSound}
use Rattle.chain.specs.Along.{From, here, turned, from_sound, Reached, Way, way, along}
use Rattle.chain.specs.Rest.{entry_of, rest, rest_step, rest_record}
use Rattle.headers.specs.Kinds.{not_both_read, record_low}

-- ---- one record

abbrev pub Lowly : Entry → Type 0
Lowly e = is_unfinished e.it.status ≡ false → (is_record e.it.low || is_start e.it.low || is_clean e.it.low) ≡ true

abbrev pub Finished : Entry → Type 0
Finished e = is_unfinished e.it.status ≡ false

-- what is allowed behind an unfinished record is no record
allowed_free : (pending : Bool) (x : Next) (n d : ℕ) → allowed pending x ≡ Next.Record n d → (pending ≡ false) × (x ≡ Next.Record n d)
allowed_free false x n d e = (refl, e)
allowed_free true (Next.Record m l) n d e = absurd (not_both_read Next.Bad n d tt e)
allowed_free true Next.Wrap n d e = absurd (not_both_read Next.Bad n d tt e)
allowed_free true Next.TornWrap n d e = absurd (not_both_read Next.Bad n d tt e)
allowed_free true Next.Clear n d e = absurd (not_both_read Next.Clear n d tt e)
allowed_free true Next.Over n d e = absurd (not_both_read Next.Over n d tt e)
allowed_free true Next.Bad n d e = absurd (not_both_read Next.Bad n d tt e)

module _ (image : Image) where
  from_pending : {c d : Cursor} → From image c d → d.pending ≡ c.pending
  from_pending (here e) = refl
  from_pending (turned e) = refl

  module _ (c : Cursor) (s : CursorSound image c) (e : Spot) (next_one : Cursor) (r : Reached image c e next_one) where
    -- no unfinished record stands before it
    pub free_before : c.pending ≡ false
    unfolding look
    free_before = sym (from_pending r.from) ∙ (allowed_free r.seen.pending (next (window image r.seen)) e.n e.d r.what).0

    read_there : next (window image r.seen) ≡ Next.Record e.n e.d
    unfolding look
    read_there = (allowed_free r.seen.pending (next (window image r.seen)) e.n e.d r.what).1

    window_is : window image r.seen ≡ take (r.seen.end - r.seen.at) (drop e.at image)
    window_is =
        sym (part_window r.seen.at r.seen.end image (from_sound r.from s).ordered)
        ∙ ap (λ (a : ℕ). take (r.seen.end - r.seen.at) (drop a image)) (sym r.at)

    low_there : low_of (window image r.seen) ≡ low_of (drop e.at image)
    low_there =
        ap low_of window_is ∙ get_or-take (r.seen.end - r.seen.at) (drop e.at image) 0 0 (omega (arith, r.fits))

    status_there : status_of (window image r.seen) ≡ status_of (drop e.at image)
    status_there =
        ap status_of window_is ∙ get_or-take (r.seen.end - r.seen.at) (drop e.at image) 2 0 (omega (arith, r.fits))

    pub lowly : Lowly (entry_of image e)
    lowly f =
        rw (← low_there)
        (record_low (window image r.seen) e.n e.d read_there (ap is_unfinished status_there ∙ f))

    pub open_behind : next_one.pending ≡ is_unfinished (entry_of image e).it.status
    open_behind =
        ap (λ (k : Cursor). k.pending) r.next_is ∙ ap (λ (a : ℕ). is_unfinished (status_of (drop a image))) (sym r.at)

    past_sound : CursorSound image next_one
    past_sound =
        let v = from_sound r.from s in
        rw r.next_is record { ordered = omega (arith, r.fits, v.ordered); inside = v.inside; room = v.room; small = v.small }

  -- ---- all of them

  pub record Orderly (c : Cursor) : Type 0 where
    pub lows : Each Lowly (rest image c).entries
    pub none_behind : c.pending ≡ true → (rest image c).entries ≡ []
    pub but_last : last_open (rest image c).entries ≡ false → Each Finished (rest image c).entries

  finished_by : (x : Entry) (es : List Entry) → (is_unfinished x.it.status ≡ true → es ≡ []) → (last_open es ≡ false → Each Finished es)
      → last_open (x ∷ es) ≡ false → Each Finished (x ∷ es)
  finished_by x [] h ih l = (l, tt)
  finished_by x (y ∷ es) h ih l = (go (is_unfinished x.it.status) refl, ih l) where
    go : (t : Bool) → is_unfinished x.it.status ≡ t → Finished x
    go true e = absurd (let z : ◌≡◌ {A = List Entry} (y ∷ es) [] = h e in cons_none z) where
      cons_none : y ∷ es ≡ [] → ⊥
      cons_none q = let z : ◌≡◌ {A = ℕ} 0 1 = cc in omega arith
    go false e = e

  pub orderly : (c : Cursor) → CursorSound image c → Orderly c
  orderly =
      along image (λ (c : Cursor). CursorSound image c → Orderly c) (λ c ih s. step c s (advance image c) refl (way image c) ih)
    where
      Later : Cursor → Type 0
      Later c = (e : Spot) (next : Cursor) → Reached image c e next → CursorSound image next → Orderly next

      ends : (c : Cursor) → (rest image c).entries ≡ [] → Orderly c
      ends c e = record { lows = rw e tt; none_behind = λ p. e; but_last = λ l. rw e tt }

      step : (c : Cursor) → CursorSound image c → (r : Item) → advance image c ≡ r → Way image c r → Later c → Orderly c
      step c s (Item.Record e next) q w ih =
          let o : Orderly next = ih e next w (past_sound c s e next w) in
          let b : next.pending ≡ is_unfinished (entry_of image e).it.status = open_behind c s e next w in
          let split = rest_record image c e next q in
          record {
            lows = rw split (lowly c s e next w, o.lows);
            none_behind = λ p. wrong (sym (free_before c s e next w) ∙ p);
            but_last = rw split (finished_by (entry_of image e) (rest image next).entries (λ f. o.none_behind (b ∙ f)) o.but_last);
          }
      step c s (Item.End t u) q w ih = ends c (rw (rest_step image c, q))
      step c s (Item.TornWrap t) q w ih = ends c (rw (rest_step image c, q))
      step c s (Item.Broken t u) q w ih = ends c (rw (rest_step image c, q))
