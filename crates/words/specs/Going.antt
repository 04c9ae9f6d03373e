-- How a reader moves its cursor.
use Rattle.std.specs.Prelude.{◌≡◌, ◌≤◌}
use Rattle.words.specs.declared.cursor.Cursor.{Cursor}

-- the cursor after a reader is in the same text, and not before where it was
pub record GoesOn (before after : Cursor) : Type 0 where
  pub text_stays : after.text.now ≡ before.text.now
  pub place : before.at ≤ after.at
