-- Each call is its door, and what it does behind it.
use Rattle.std.specs.Prelude.{ℕ, ◌≡◌, List}
use Rattle.std.proofs.Math.Path.{refl}
use Rattle.spec.specs.Step.{Image}
use Rattle.spec.specs.Basics.{onward}
use Rattle.spec.specs.Door.{accepted, admitted, admitted_named}
use Rattle.spec.specs.Answers.{carry_out, mount_of, mount_plan, mount, put_into, put_plan, put, file_of, file_plan, removing, remove_plan}
use Rattle.spec.specs.Answers.{remove, getting, get_plan, get, list_of, list_plan, list, sweep_of, sweep_plan, sweep}

module _ (image : Image) (k : ℕ) where
  pub mount_is : carry_out image k (onward (accepted image) (mount_of image)) ≡ mount image k
  unfolding mount_plan
  mount_is = refl

  pub sweep_is : carry_out image k (onward (admitted image) (sweep_of image)) ≡ sweep image k
  unfolding sweep_plan
  sweep_is = refl

  pub list_is : carry_out image 0 (onward (admitted image) (list_of k)) ≡ list image k
  unfolding list_plan
  list_is = refl

  pub put_is : (name content : List ℕ) → carry_out image k
      (onward (admitted_named name image) (put_into name content image)) ≡ put image name content k
  unfolding put_plan
  put_is name content = refl

  pub remove_is : (name : List ℕ) → carry_out image k (onward (admitted_named name image) (file_of name removing)) ≡ remove image name k
  unfolding remove_plan file_plan
  remove_is name = refl

pub get_is : (image : Image) (name : List ℕ) → carry_out image 0
    (onward (admitted_named name image) (file_of name getting)) ≡ get image name
unfolding get_plan file_plan
get_is image name = refl
