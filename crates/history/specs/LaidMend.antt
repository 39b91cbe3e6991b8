-- Repair 1 on a laid image whose head is CLEAN: cut anywhere it is of that kind still, and at the end it is bare (Repaired).
use Prim.Native.Nat.{ℕ, zero, suc, ◌+◌, ◌-◌, ◌*◌, ◌/◌, ◌%◌, ◌≤◌}
use Rattle.std.proofs.Common.{arith, ap₂, ◌∙◌, subst₂, length-append, length-drop, take-append-drop}
use Rattle.std.specs.Prelude.{◌≡◌, Bool, drop, get_or}
use Rattle.std.proofs.Math.Path.{refl, sym, ap, subst}
use Rattle.std.proofs.Math.Bool.{true, false}
use mathlib.Core.List.{List, [], ◌∷◌, ◌++◌, append_assoc, map, map-append}
use Rattle.std.proofs.Math.ListN.{length, take}
use Rattle.std.proofs.lemmas.List.{length-replicate}
use Rattle.spec.specs.declared.Next.{Next}
use Rattle.spec.specs.Step.{Image, Step, erase, run}
use Rattle.spec.specs.Basics.{keep}
use Rattle.spec.specs.Geometry.{good_length, floor, ceiling, sectors}
use Rattle.spec.specs.Record.{Entry}
use Rattle.spec.specs.Reading.{limit, tail_blank}
use Rattle.spec.specs.Mount.{free_sectors, dirty, erase_steps}
use Rattle.history.specs.Lists.{keep_append, none_at}
use Rattle.history.specs.Blanks.{blanks, take_blanks, split_front}
use Rattle.history.specs.Lay.{lay}
use Rattle.laws.specs.Steps.{run_append}
use Rattle.laws.specs.Sectors.{sectors_none}
use Rattle.laws.specs.Length.{good}
use Rattle.history.specs.Safe.{Safe, safe_map}
use Rattle.history.specs.Markless.{markless_ff, Markless}
use Rattle.history.specs.Seg.{seg_none, seg_onto}
use Rattle.history.specs.Turned.{opens_blanks}
use Rattle.history.specs.Laid.{Laid, laid_straight, laid_turned, Hole, Tail, tail_clear, tail_floor, tail_N, tail_turn, Bare, clear_ff, place}
use Rattle.history.specs.LaidEdit.{laid_below, hole_of, free_markless}
use Rattle.history.specs.Vacant.{limit_is, Vacant, vacant_long, vacant_of, vacant_tail, vacant_blank, vacant_free}
use Rattle.history.specs.Repair.{mend_steps, mend_done}
use Rattle.history.specs.EraseFree.{Mid, erase_safe}

-- ---- all the erases: FF

front_ff : (B : ℕ) (below lost : List ℕ) → length below ≡ B → B % 8 ≡ 0 → (get_or (below ++ lost) 1 0 ≡ 0x5A → ⊥)
    → get_or (blanks B ++ lost) 1 0 ≡ 0x5A → ⊥
front_ff zero [] lost e z f = f
front_ff zero (x ∷ below) lost e z f = absurd (omega arith)
front_ff (suc zero) below lost e z f = absurd (omega arith)
front_ff (suc (suc n)) below lost e z f = λ p. omega arith

-- the sectors below the head
low_done : {im : Image} {h S : ℕ} {es : List Entry} {below free : List ℕ} → Laid im h S false es seg_none below free → (B : ℕ) → B ≡ floor h →
    Laid (run im (mend_steps im B 0 B)) h S false es seg_none (blanks B) free
low_done {im} {h} {S} {es} {below} {free} (laid_straight {a} {l} {lost} {x} {ys} f s t₁ S₁ e₁ lf qf) B n =
    let Z : List ℕ = lost ++ lay (x ∷ ys) (seg_onto seg_none free) in
    let b : B ≡ 4096 * a = omega (arith, s.at, s.lost_small) in
    let w : B ≡ 8 * (512 * a) = omega arith in
    laid_straight {x = x} {ys = ys} f
    (record {
      is =
          ap (λ (i : Image). run i (mend_steps im B 0 B)) s.is
          ∙ mend_done a B 0 B [] [] below Z refl refl s.gap_length (omega arith) (omega arith) im s.is
          ∙ ap (λ (m : ℕ). blanks m ++ Z) (sym b);
      at = s.at;
      gap_length = length-replicate {A = ℕ} B 0xFF ∙ b;
      gap_markless = markless_ff (512 * a) (blanks B) (ap blanks w);
      lost_length = s.lost_length;
      lost_small = s.lost_small;
      lost_markless = s.lost_markless;
      front = front_ff B below lost (s.gap_length ∙ sym b) (omega arith) s.front;
      fine = s.fine;
    })
    t₁ S₁ e₁ lf qf
low_done (laid_turned s t₁ S₁ e₁ b) B n = let z : ◌≡◌ {A = ℕ} 0 1 = cc in absurd (omega arith)

-- a run that begins with c bytes of FF
opened_up : (p post free : List ℕ) (c : ℕ) → take c free ≡ blanks c → p ++ (free ++ post) ≡ (p ++ blanks c) ++ (drop c free ++ post)
opened_up p post free c e =
    ap (λ (l : List ℕ). p ++ (l ++ post)) (sym (take-append-drop c free) ∙ ap (λ (l : List ℕ). l ++ drop c free) e)
    ∙ ap (λ (l : List ℕ). p ++ l) (append_assoc (blanks c) (drop c free) post)
    ∙ sym (append_assoc p (blanks c) (drop c free ++ post))

-- the sectors behind T
high_done : {im : Image} {h S : ℕ} {t : Bool} {es : List Entry} {below free : List ℕ} (d : Laid im h S t es seg_none below free) (im₀ : Image)
    (pre₀ : List ℕ) →
    im₀ ≡ pre₀ ++ (free ++ (hole_of d).post) → length pre₀ ≡ S → (c k lim : ℕ) → S + c ≡ ceiling S → take c free ≡ blanks c
    → ceiling S + 4096 * k ≡ lim → S + length free ≡ lim →
    8 ≤ length free → Laid (run im (mend_steps im₀ lim (ceiling S) lim)) h S t es seg_none below (blanks (length free))
high_done {im} {h} {S} {t} {es} {below} {free} d im₀ pre₀ i₀ l₀ c k lim sc cb kl fl e₈ =
    let K : Hole im h S t es seg_none below free = hole_of d in
    let f : (f : ℕ) × (length free ≡ 8 * f) × Markless f free = free_markless d in
    let lc : length (blanks c) ≡ c = length-replicate {A = ℕ} c 0xFF in
    let F : ℕ = length free in
    let n : c + 4096 * k ≡ F = omega arith in
    let e : run im (mend_steps im₀ lim (ceiling S) lim) ≡ K.pre ++ (blanks F ++ K.post) =
    ap (λ (i : Image). run i (mend_steps im₀ lim (ceiling S) lim)) (K.is ∙ opened_up K.pre K.post free c cb)
    ∙ mend_done k lim (ceiling S) lim (pre₀ ++ blanks c) (K.pre ++ blanks c) (drop c free) K.post (length-append pre₀ (blanks c) ∙ omega arith)
    (length-append K.pre (blanks c) ∙ omega (arith, K.at))
    (length-drop c free ∙ omega arith) kl (omega arith) im₀ (i₀ ∙ opened_up pre₀ K.post free c cb)
    ∙ append_assoc K.pre (blanks c) (blanks (4096 * k) ++ K.post)
    ∙ ap (λ (l : List ℕ). K.pre ++ l)
    (sym (split_front c (4096 * k) (c + (4096 * k)) K.post refl) ∙ ap (λ (m : ℕ). blanks m ++ K.post) n) in
    let lF : length (blanks F) ≡ F = length-replicate {A = ℕ} F 0xFF in
    subst (λ (i : Image). Laid i h S t es seg_none below (blanks F)) (sym e)
    (K.plug seg_none f.0 (blanks F) Next.Clear (lF ∙ f.1) (markless_ff f.0 (blanks F) (ap blanks f.1)) (opens_blanks F e₈)
    (ap (λ (m : ℕ). 0 + m) lF))

turned_below : {im : Image} {h S : ℕ} {es : List Entry} {below free : List ℕ} → Laid im h S true es seg_none below free → below ≡ []
turned_below (laid_straight f s t₁ S₁ e₁ lf qf) = let n : ◌≡◌ {A = ℕ} 0 1 = cc in absurd (omega arith)
turned_below (laid_turned s t₁ S₁ e₁ b) = b

post_none : {im : Image} {h S : ℕ} {es : List Entry} {below free : List ℕ} (d : Laid im h S false es seg_none below free) → (hole_of d).post ≡ []
post_none {im} {h} {S} {es} {below} {free} d =
    let K : Hole im h S false es seg_none below free = hole_of d in
    let n : length im ≡ S + length free = limit_is d in
    none_at K.post (omega (arith, ap length K.is, length-append K.pre (free ++ K.post), length-append free K.post, K.at))

module _ {im : Image} {h S : ℕ} {es : List Entry} (g : length im % 4096 ≡ 0) where
  vacant_bare : (t : Bool) → Vacant h S t es im → Bare h es (run im (erase_steps im (place im h S t)))
  unfolding erase_steps free_sectors
  vacant_bare true v =
      let L : floor h ≡ S + length v.free = limit_is v.laid in
      let c : ℕ = ceiling S - S in
      let k : ℕ = (floor h - ceiling S) / 4096 in
      let K : Hole im h S true es seg_none v.below v.free = hole_of v.laid in
      let e : take c v.free ≡ blanks c = ap (take c) (vacant_free v)
      ∙ take_blanks c v.m (drop v.m v.free) (omega (arith, v.own)) in
      record {
        S = S;
        B = 0;
        F = length v.free;
        t = true;
        laid =
            subst (λ (b : List ℕ). Laid (run im (mend_steps im (floor h) (ceiling S) (floor h))) h S true es seg_none b (blanks (length v.free)))
            (turned_below v.laid)
            (high_done v.laid im K.pre K.is K.at c k (floor h) (omega arith) e
            (omega (arith, v.own, v.whole)) (sym L)
            (omega (arith, vacant_long v, v.whole)));
        tail = clear_ff (length v.free) (omega (arith, vacant_long v, v.whole));
      }
  vacant_bare false v =
      let N : ℕ = length im in
      let L : N ≡ S + length v.free = limit_is v.laid in
      let c : ℕ = ceiling S - S in
      let k : ℕ = (N - ceiling S) / 4096 in
      let K : Hole im h S false es seg_none v.below v.free = hole_of v.laid in
      let e : take c v.free ≡ blanks c = ap (take c) (vacant_free v)
      ∙ take_blanks c v.m (drop v.m v.free) (omega (arith, v.own)) in
      let low : List Step = mend_steps im (floor h) 0 (floor h) in
      let high : List Step = mend_steps im N (ceiling S) N in
      let d : Laid (run im low) h S false es seg_none (blanks (floor h)) v.free = low_done v.laid (floor h) refl in
      let is : im ≡ K.pre ++ (v.free ++ (hole_of d).post) = K.is
      ∙ ap (λ (l : List ℕ). K.pre ++ (v.free ++ l)) (post_none v.laid ∙ sym (post_none d)) in
      let ss : map erase (keep (dirty im) (sectors 0 (floor h) ++ sectors (ceiling S) N)) ≡ low ++ high =
      ap (map erase) (keep_append (dirty im) (sectors 0 (floor h)) (sectors (ceiling S) N))
      ∙ map-append erase (keep (dirty im) (sectors 0 (floor h))) (keep (dirty im) (sectors (ceiling S) N)) in
      subst (λ (i : Image). Bare h es i) (sym (ap (run im) ss ∙ run_append im low high))
      (record {
        S = S;
        B = floor h;
        F = length v.free;
        t = false;
        laid =
            high_done d im K.pre is K.at c k N (omega arith) e (omega (arith, v.own, v.whole)) (sym L)
            (omega (arith, vacant_long v, v.whole));
        tail = clear_ff (length v.free) (omega (arith, vacant_long v, v.whole));
      })

-- with nothing free there is nothing to erase
both_nil : {h S : ℕ} {t : Bool} {es : List Entry} {im : Image} {below free : List ℕ} → below ≡ [] → free ≡ [] → Laid im h S t es seg_none below free
    → Tail h S t seg_none below free S t → Bare h es im
both_nil {h} {S} {t} {es} {im} b f d e =
    record {
      S = S;
      B = 0;
      F = 0;
      t = t;
      laid = subst₂ (λ (x y : List ℕ). Laid im h S t es seg_none x y) b f d;
      tail = subst₂ (λ (x y : List ℕ). Tail h S t seg_none x y S t) b f e;
    }

full_steps : {im : Image} {h S : ℕ} {es : List Entry} {below free : List ℕ} (t : Bool) → Laid im h S t es seg_none below free → free ≡ []
    → length im % 4096 ≡ 0 → (t ≡ false → floor h ≡ 0) →
    erase_steps im (place im h S t) ≡ []
unfolding erase_steps free_sectors
full_steps {im} {h} {S} {free = free} true d f g z =
    let L : floor h ≡ S + length free = limit_is d in
    ap (λ (zs : List ℕ). map erase (keep (dirty im) zs)) (sectors_none (ceiling S) (floor h) (omega (arith, ap length f)))
full_steps {im} {h} {S} {free = free} false d f g z =
    let L : length im ≡ S + length free = limit_is d in
    ap₂ (λ (xs ys : List ℕ). map erase (keep (dirty im) (xs ++ ys))) (sectors_none 0 (floor h) (omega (arith, z refl)))
    (sectors_none (ceiling S) (length im) (omega (arith, ap length f)))

full_below : {im : Image} {h S : ℕ} {es : List Entry} {below free : List ℕ} (t : Bool) → Laid im h S t es seg_none below free
    → (t ≡ false → floor h ≡ 0) → below ≡ []
full_below true d z = turned_below d
full_below {below = below} false d z = none_at below (laid_below d refl ∙ z refl)

-- ---- repair 1

-- the image on the way: the head CLEAN, the sector of T FF
pub record Vacates (N h S : ℕ) (t : Bool) (es : List Entry) (im : Image) : Type 0 where
  pub len : length im ≡ N
  pub below : List ℕ
  pub free : List ℕ
  pub laid : Laid im h S t es seg_none below free
  pub tail : Tail h S t seg_none below free S t
  pub blank : tail_blank im (place im h S t) ≡ true

-- repair 1, cut anywhere and at the end
pub record Repaired (im : Image) (h S : ℕ) (t : Bool) (es : List Entry) : Type 0 where
  pub safe : Safe (Vacates (length im) h S t es) im (erase_steps im (place im h S t))
  pub bare : Bare h es (run im (erase_steps im (place im h S t)))

-- repair 1 on a laid image
pub repair_laid : {im : Image} {h S : ℕ} {t : Bool} {es : List Entry} {below free : List ℕ} → good_length (length im) ≡ true
    → Laid im h S t es seg_none below free →
    Tail h S t seg_none below free S t →
    tail_blank im (place im h S t) ≡ true → Repaired im h S t es
repair_laid {im} {h} {S} {t} {es} {below} {free} g d e b = go e
  where
    full : free ≡ [] → (t ≡ false → floor h ≡ 0) → Repaired im h S t es
    full f z =
        let none : [] ≡ erase_steps im (place im h S t) = sym (full_steps t d f (good (length im) g).sectors z) in
        record {
          safe =
              subst (λ (ss : List Step). Safe (Vacates (length im) h S t es) im ss) none (record {
                len = refl;
                below = below;
                free = free;
                laid = d;
                tail = e;
                blank = b;
              });
          bare = subst (λ (ss : List Step). Bare h es (run im ss)) none (both_nil (full_below t d z) f d e);
        }

    go : Tail h S t seg_none below free S t → Repaired im h S t es
    go (tail_clear s f p q) =
        let v : Vacant h S t es im = vacant_of d g s f b in
        let lim : ℕ = limit (place im h S t) in
        record {
          safe = safe_map (Mid (length im) h S lim t es) (Vacates (length im) h S t es)
              (λ i w. record {
                len = w.len;
                below = w.vac.below;
                free = w.vac.free;
                laid = w.vac.laid;
                tail = vacant_tail w.vac;
                blank = vacant_blank w.vac;
              }) im
              (erase_steps im (place im h S t))
              (erase_safe (record { len = refl; vac = v; ends = sym (limit_is v.laid) }));
          bare = vacant_bare (good (length im) g).sectors t v;
        }
    go (tail_floor f t₁ p q) = full f (λ u. let n : ◌≡◌ {A = ℕ} 0 1 = cc in absurd (omega arith))
    go (tail_N f t₁ z p q) = full f (λ u. z)
    go (tail_turn s f t₁ n w p q) = absurd (n refl)
