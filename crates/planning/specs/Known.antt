-- What is known of an image that is accepted, and of one that is settled.
use Rattle.std.specs.Prelude.{ℕ, ◌%◌, ◌<◌, ◌≡◌, Bool, true, false, ◌&&◌, not, List, length, get_or}
use Rattle.std.proofs.Common.{arith, sym, ap, ◌∙◌, subst}
use Rattle.spec.specs.Step.{Image}
use Rattle.spec.specs.Basics.{give, numbered, any}
use Rattle.spec.specs.Record.{Entry}
use Rattle.spec.specs.Head.{head}
use Rattle.spec.specs.Chain.{Reading, reading_from}
use Rattle.spec.specs.Files.{superseded, doubled}
use Rattle.spec.specs.Reading.{whole, names_ok, single, marks_ok, free_ok, head_clean, legal, judged, reading}
use Rattle.spec.specs.Door.{settled_reading}
use Rattle.laws.specs.Tests.{not_true, and_left, and_right}
use Rattle.laws.specs.Head.{Low, Begins, head_begins}
use Rattle.laws.specs.Settled.{second_marked, last_open, wrap_torn, calm, settled_is}
use Rattle.laws.specs.Answer.{gave, passed}
use Rattle.laws.specs.Door.{settled_gives}
use Rattle.planning.specs.Reads.{Reads, reading_reads}
use Rattle.planning.specs.First.{reads_head}

-- ---- accepted

-- the head lies inside, on an 8-byte boundary, with a START or CLEAN byte; the chain from it is read as rows; the rules that repairs need
pub record Known (im : Image) (r : Reading) : Type 0 where
  pub inside : r.place.head < length im
  pub even : r.place.head % 8 ≡ 0
  pub low : Low (get_or im r.place.head 0)
  pub reads : Reads im r.place.head r
  pub once : doubled 0xF8 r.entries ≡ false
  pub marks : marks_ok r.entries ≡ true
  pub free : free_ok im r ≡ true

single_once : (es : List Entry) → single es ≡ true → doubled 0xF8 es ≡ false
unfolding single
single_once es h = not_true (doubled 0xF8 es) (and_right (not (doubled 0xFC es)) (not (doubled 0xF8 es)) h)

-- a legal reading from a head
accepted_from : (im : Image) (h : ℕ) → Begins im h → legal im (reading_from im h) ≡ true → Known im (reading_from im h)
unfolding legal
accepted_from im h b w =
    let r : Reading = reading_from im h in
    let es : List Entry = r.entries in
    let p_1 : Bool = whole r.ending && names_ok es in
    let p_2 : Bool = p_1 && single es in
    let p_3 : Bool = p_2 && marks_ok es in
    let w_3 : p_3 ≡ true = and_left p_3 (free_ok im r) w in
    let w_2 : p_2 ≡ true = and_left p_2 (marks_ok es) w_3 in
    let w_1 : p_1 ≡ true = and_left p_1 (single es) w_2 in
    let reads : Reads im h r = reading_reads im h (omega (arith, b.inside)) (and_left (whole r.ending) (names_ok es) w_1) in
    let at : h ≡ r.place.head = sym (reads_head reads).0 in
    record {
      inside = omega (arith, b.inside);
      even = sym (ap (λ (a : ℕ). a % 8) at) ∙ b.even;
      low = subst (λ (a : ℕ). Low (get_or im a 0)) at b.low;
      reads = subst (λ (a : ℕ). Reads im a r) at reads;
      once = single_once es (and_right p_1 (single es) w_2);
      marks = and_right p_2 (marks_ok es) w_3;
      free = and_right p_3 (free_ok im r) w;
    }

pub accepted_known : (im : Image) (r : Reading) → reading im ≡ give r → Known im r
unfolding reading judged
accepted_known im r e =
    let w = gave (head im) _ r e in
    let h = w.value in
    let p = passed (legal im (reading_from im h)) (numbered 5) (reading_from im h) r w.on in
    subst (Known im) p.1 (accepted_from im h (head_begins im h w.from) p.0)

-- ---- settled

-- no repair has a step to do
pub record Calm (r : Reading) : Type 0 where
  pub started : head_clean r.entries ≡ false
  pub closed : last_open r.entries ≡ false
  pub unwrapped : wrap_torn r.ending ≡ false
  pub single : any (superseded r.entries) r.entries ≡ false

calm_is : (r : Reading) → calm r ≡ true → Calm r
unfolding calm
calm_is r h =
    let es : List Entry = r.entries in
    let last : Bool = not (last_open es) && not (wrap_torn r.ending) in
    let none : Bool = not (any (superseded es) es) in
    let p = and_right (not (head_clean es)) (not (second_marked es) && (last && none)) h in
    let q = and_right (not (second_marked es)) (last && none) p in
    let s = and_left last none q in
    record {
      started = not_true (head_clean es) (and_left (not (head_clean es)) (not (second_marked es) && (last && none)) h);
      closed = not_true (last_open es) (and_left (not (last_open es)) (not (wrap_torn r.ending)) s);
      unwrapped = not_true (wrap_torn r.ending) (and_right (not (last_open es)) (not (wrap_torn r.ending)) s);
      single = not_true (any (superseded es) es) (and_right last none q);
    }

pub settled_known : (im : Image) (r : Reading) → settled_reading im ≡ give r → Known im r × Calm r
settled_known im r e = let p = settled_gives im r e in (accepted_known im r p.0, calm_is r (sym (settled_is im r) ∙ p.1))
