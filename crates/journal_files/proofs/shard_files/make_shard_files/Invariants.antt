use Rattle.std.proofs.Common.{◌≡◌, ◌≤◌, vec_len}
use Rattle.std.specs.Prelude.{vec_capacity}
use Rattle.journal_files.proofs.shard_files.make_shard_files.Given as goal

abbrev pub invariant-loop-shard : goal.invariant-loop-shard
invariant-loop-shard g l = record {
  len : vec_len l.files ≡ l.shard;
  room : l.shards ≤ vec_capacity l.files;
}
