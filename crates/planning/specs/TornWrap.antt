-- Repair 3 on a torn wrap: it is a marker afterwards, and all else is as it was.
use Rattle.std.specs.Prelude.{ℕ, ◌+◌, ◌≤◌, ◌<◌, ◌≡◌, refl, Bool, true, false, List, length, get_or}
use Rattle.std.proofs.Common.{arith, add-zero, sym, ap, ◌∙◌, ⊎_elim, eqb-true}
use Rattle.spec.specs.declared.Next.{Next}
use Rattle.spec.specs.declared.Kind.{Kind}
use Rattle.spec.specs.declared.Ending.{Ending}
use Rattle.spec.specs.Step.{Image, Step, run}
use Rattle.spec.specs.Basics.{part}
use Rattle.spec.specs.Bytes.{is_spare}
use Rattle.spec.specs.Next.{next, kind}
use Rattle.spec.specs.Write.{marker_steps}
use Rattle.spec.specs.Mount.{torn_wrap_steps}
use Rattle.laws.specs.Fits.{Fits, allowed_fits}
use Rattle.laws.specs.Parts.{Outside}
use Rattle.planning.specs.Kinds.{kind_told}
use Rattle.planning.specs.Row.{stretch_length, kind_at}
use Rattle.planning.specs.Spots.{next_kind, next_wrap}
use Rattle.planning.specs.Effect.{Bounded, run_length, untouched_run, writes_run, writes_shifted, skips, last_programs}
use Rattle.planning.specs.Effect.{last_writes}

-- a torn marker's fourth byte is FF
torn_spare : (b c st m : ℕ) → kind b c st m ≡ Kind.TornMarker → m ≡ 0xFF
unfolding kind is_spare
torn_spare b c st m h = go (is_spare m) refl where
  go : (t : Bool) → is_spare m ≡ t → m ≡ 0xFF
  go true e = eqb-true m 0xFF e
  go false e = let q : Kind.Bad ≡ Kind.TornMarker = rw (kind, e) at h in absurd (let z : ◌≡◌ {A = ℕ} 0 1 = cc in omega arith)

-- where a torn wrap stands, and its fourth byte
pub record TornAt (im : Image) (b : ℕ) : Type 0 where
  pub inside : b + 8 ≤ length im
  pub spare : get_or im (b + 3) 0 ≡ 0xFF

pub torn_at_is : (im : Image) (b : ℕ) → b ≤ length im → next (part b (length im) im) ≡ Next.TornWrap → TornAt im b
torn_at_is im b h e =
    let s : List ℕ = part b (length im) im in
    let f : Fits (next s) (length s) = allowed_fits false s in
    let eight : 8 ≤ length s = rw e at f in
    let len = stretch_length im b (length im) h (omega arith) in
    let in-8 : b + 8 ≤ length im = omega arith in
    let k : kind_at im b ≡ Kind.TornMarker =
    kind_told (kind_at im b) s Next.TornWrap (sym (next_kind im b (length im) (omega arith) in-8) ∙ e) (omega arith) (omega arith) in
    record { inside = in-8; spare = torn_spare (get_or im b 0) (get_or im (b + 1) 0) (get_or im (b + 2) 0) (get_or im (b + 3) 0) k }

-- a marker stands at b, all else is as it was
pub record Marks (im left : Image) (b : ℕ) : Type 0 where
  pub len : length left ≡ length im
  pub same : (i : ℕ) → Outside i b 8 → get_or left i 0 ≡ get_or im i 0
  pub wrap : next (part b (length left) left) ≡ Next.Wrap

pub marks_by : (im : Image) (b : ℕ) → TornAt im b → Marks im (run im (torn_wrap_steps (Ending.TornWrap b))) b
unfolding last_programs skips
marks_by im b h =
    let ss : List Step = torn_wrap_steps (Ending.TornWrap b) in
    let left : Image = run im ss in
    let ok : Bounded (length im) ss = tt in
    let len : length left ≡ length im = run_length im ss ok in
    let keep : (i : ℕ) → (i ≡ b + 0 → ⊥) → (i ≡ b + 1 → ⊥) → (i ≡ b + 2 → ⊥) → get_or left i 0 ≡ get_or im i 0 =
    λ i o p q. untouched_run im ss i ok (o, (p, (q, tt))) in
    let byte : (i x : ℕ) → last_programs marker_steps i x ≡ true → i < 8 → get_or left (b + i) 0 ≡ x =
    λ i x e g. writes_run im ss (b + i) x (omega (arith, h.inside)) ok
    (writes_shifted b i x marker_steps (last_writes marker_steps i x e)) in
    let far : (i : ℕ) → Outside i b 8 → (k : ℕ) → k < 8 → i ≡ b + k → ⊥ =
    λ i o k g q. ⊎_elim (λ (z : i < b). omega arith) (λ (z : b + 8 ≤ i). omega arith) o in
    record {
      len = len;
      same = λ i o. keep i (far i o 0 (omega arith)) (far i o 1 (omega arith)) (far i o 2 (omega arith));
      wrap =
          next_wrap left b (length left) (omega arith) (omega (arith, h.inside, len))
          (ap (λ (i : ℕ). get_or left i 0) (sym (add-zero b)) ∙ byte 0 0xFA refl (omega arith)) (byte 1 0x5A refl (omega arith))
          (byte 2 0xF0 refl (omega arith)) (keep (b + 3) (λ q. omega arith) (λ q. omega arith) (λ q. omega arith) ∙ h.spare);
    }
