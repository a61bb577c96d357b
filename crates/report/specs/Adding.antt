-- Bytes put into a lent buffer, behind those that are there.
use Rattle.std.specs.Prelude.{◌≡◌, List, ℕ, ◌+◌, ◌≤◌, length}
use Rattle.csv_text.specs.Filling.{over}
use Rattle.report.specs.declared.put.Output.{Output}

-- n bytes more have room
abbrev pub Room : Output → ℕ → Type 0
Room o n = o.filled + n ≤ length o.bytes.now

-- the bytes stand where the buffer was filled to, all else is as it was, and it is filled to where they end
pub record Adds (o : Output) (bs : List ℕ) (o' : Output) : Type 0 where
  pub same_buffer : o'.bytes.ghost_name ≡ o.bytes.ghost_name
  pub counted : o'.filled ≡ o.filled + length bs
  pub written : o'.bytes.now ≡ over o.bytes.now o.filled bs
