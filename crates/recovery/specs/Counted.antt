-- What mount answers once its repairs are done.
use Rattle.std.specs.Prelude.{ℕ, ◌≡◌, Option, Some, None, length}
use Rattle.std.proofs.Common.{sym, ap, subst, ◌∙◌}
use Rattle.spec.specs.declared.Report.{Report}
use Rattle.spec.specs.Step.{Image}
use Rattle.spec.specs.Chain.{Reading, reading_from}
use Rattle.spec.specs.Files.{files}
use Rattle.spec.specs.Move.{Work}
use Rattle.spec.specs.Mount.{mended}
use Rattle.flash.specs.declared.Meter.{Meter}
use Rattle.flash.specs.Meters.{Enough, UsedUp}
use Rattle.reading.specs.declared.Survey.{Survey}
use Rattle.chain.specs.Rest.{rest}
use Rattle.reading.specs.Read.{first_cursor, reading_of}
use Rattle.recovery.specs.declared.Mended.{Mended}
use Rattle.reading.specs.Survey.{Seen}
use Rattle.flash.specs.Began.{Began}
use Rattle.recovery.specs.Mended.{Mends}

-- the numbers of the reading that the repairs leave
pub record Numbered (w : Work) (r : Report) : Type 0 where
  pub head : r.head ≡ w.reading.place.head
  pub tail : r.tail ≡ w.reading.place.tail
  pub files : r.files ≡ length (files w.reading.entries)

-- they are told where the allowance was enough for all repairs, and only there
abbrev pub Told : Work → Option Report → Meter → Type 0
Told w None q = UsedUp q
Told w (Some r) q = Enough q × Numbered w r

-- the repairs on s, read from h on, gave t: all of them, with their numbers, or their first steps up to the allowance
pub record Counted (s : Image) (h : ℕ) (m : Meter) (t : Image) (r : Mended) : Type 0 where
  pub begun : Began s m (mended s (reading_from s h)).steps t r.meter
  pub told : Told (mended s (reading_from s h)) r.report r.meter

module _ {s t : Image} {h : ℕ} {m : Meter} {r : Mended} (c : Counted s h m t r) where
  pub told_none : r.report ≡ None → UsedUp r.meter
  told_none e = subst (λ (x : Option Report). Told (mended s (reading_from s h)) x r.meter) e c.told

  pub told_some : (v : Report) → r.report ≡ Some v → Enough r.meter × Numbered (mended s (reading_from s h)) v
  told_some v e = subst (λ (x : Option Report). Told (mended s (reading_from s h)) x r.meter) e c.told

module _ {s t : Image} {h k : ℕ} {m q : Meter} (w : Mends s h m t k q) where
  pub counted_done : (v : Survey) (n : ℕ) → Enough q → Seen t k v → n ≡ length (files (rest t (first_cursor t k)).entries)
      → Counted s h m t (record { report = Some (record { head = k; tail = v.place.tail; files = n }); meter = q })
  counted_done v n l f e =
      let r : (mended s (reading_from s h)).reading ≡ reading_of t v = w.mending.reading l ∙ sym f.same in
      record {
        begun = w.mending.begun;
        told = (
          l,
          record {
            head = sym (ap (λ (x : Reading). x.place.head) r ∙ f.head);
            tail = sym (ap (λ (x : Reading). x.place.tail) r);
            files =
                e ∙ sym (ap (λ (x : Reading). length (files x.entries)) r
                ∙ ap (λ (i : ℕ). length (files (rest t (first_cursor t i)).entries)) f.head);
          },
        );
      }
