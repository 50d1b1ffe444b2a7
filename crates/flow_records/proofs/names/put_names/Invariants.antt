-- The names so far stand there.
use Rattle.std.proofs.Common.{◌≡◌, ℕ, ◌+◌, ◌<◌, ◌++◌, length, take, drop}
use Rattle.std.specs.List.{concat}
use Rattle.std.specs.Prelude.{slice_index}
use Rattle.flow_records.specs.Names.{names_of}
use Rattle.flow_records.proofs.names.put_names.Given as goal

abbrev pub invariant-loop-number : goal.invariant-loop-number
invariant-loop-number l = record {
  at : l.at ≡ length (concat (take l.number (names_of l.named l.program)));
  count : length l.ends ≡ length (names_of l.named l.program);
  end : (n : ℕ) → n < l.number → slice_index l.ends n ≡ length (concat (take (n + 1) (names_of l.named l.program)));
  bytes : l.bytes ≡ concat (take l.number (names_of l.named l.program)) ++ drop l.at l.initial.bytes;
}
