-- What is asked of a pose and of a weight, one law for each return: 12 before 13, and 14 of the weight alone. Assumes nothing.
use mathlib.Core.Bool.{Bool, true, false}
use mathlib.Core.Option.{none, some}
use mathlib.Core.Path.{◌≡◌, refl, sym, ◌∙◌}
use lib.Ieee.{Float, nan, inf, fin}
use Rattle.std.specs.Float.{float_is_finite}
use Rattle.clip.specs.Keys.{finite, translation_fails, orientation_fails, pose_asked, weight_asked}
use Rattle.records.specs.declared.pose.Pose.{Pose}

-- What the library tells of a float.
pub finite_is : (x : Float) → float_is_finite x ≡ finite x
unfolding float_is_finite
finite_is nan = refl
finite_is (inf s) = refl
finite_is (fin s m e) = refl

module _ (p : Pose) (t o : Bool) where
  pub refused-12 : t ≡ translation_fails p → t ≡ true → some 12 ≡ pose_asked p
  unfolding pose_asked
  refused-12 is seen = rw (sym is ∙ seen)

  pub refused-13 : t ≡ translation_fails p → t ≡ false → o ≡ orientation_fails p → o ≡ true → some 13 ≡ pose_asked p
  unfolding pose_asked
  refused-13 t_is t_seen o_is o_seen = rw (sym t_is ∙ t_seen, sym o_is ∙ o_seen)

  pub pose-fine : t ≡ translation_fails p → t ≡ false → o ≡ orientation_fails p → o ≡ false → none ≡ pose_asked p
  unfolding pose_asked
  pose-fine t_is t_seen o_is o_seen = rw (sym t_is ∙ t_seen, sym o_is ∙ o_seen)

module _ (w : Float) (f : Bool) where
  pub weight-fine : f ≡ finite w → f ≡ true → none ≡ weight_asked w
  unfolding weight_asked
  weight-fine is seen = rw (sym is ∙ seen)

  pub refused-14 : f ≡ finite w → f ≡ false → some 14 ≡ weight_asked w
  unfolding weight_asked
  refused-14 is seen = rw (sym is ∙ seen)

pub ruleset poses = (refused-12, refused-13, pose-fine)
