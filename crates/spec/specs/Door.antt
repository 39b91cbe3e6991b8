-- "Numbers given back", the table's rows 22, 5, 6 and 16: what a call asks of the image, and of a name, before anything else.
use Rattle.std.specs.Prelude.{List, ℕ, length}
use Rattle.spec.specs.Refusals.{RefusalNumbers}
use Rattle.spec.specs.Step.{Image}
use Rattle.spec.specs.Basics.{Answer, give, numbered, checked, onward}
use Rattle.spec.specs.Geometry.{good_length}
use Rattle.spec.specs.Record.{name_fault, name_ok}
use Rattle.spec.specs.Chain.{Reading}
use Rattle.spec.specs.Reading.{reading}
use Rattle.spec.specs.Mount.{settled}

-- 16: "not settled"
unfoldable pub if_settled : Image → Reading → Answer Reading
if_settled image r = checked (settled image r) (numbered 16) (give r)

-- 5, 6: "the reading says so"; then 16
unfoldable pub settled_reading : Image → Answer Reading
settled_reading image = onward (reading image) (if_settled image)

-- 22: "N bad"
abbrev pub if_good_length : Image → Answer Reading → Answer Reading
if_good_length image a = checked (good_length (length image)) (numbered 22) a

-- mount: 22, then 5, 6
unfoldable pub accepted : Image → Answer Reading
accepted image = if_good_length image (reading image)

-- list and sweep: 16 too
unfoldable pub admitted : Image → Answer Reading
admitted image = if_good_length image (settled_reading image)

-- K5: "Put, get and remove pass both on beside 22, in place of zeros"
abbrev pub misnamed : List ℕ → RefusalNumbers
misnamed name = record { number = 22; name = name_fault name }

-- put, get and remove: 22 "N bad, then name bad", then 5, 6 and 16; the name's fault is "0 where N is bad"
unfoldable pub admitted_named : List ℕ → Image → Answer Reading
admitted_named name image = if_good_length image (checked (name_ok name) (misnamed name) (settled_reading image))
