-- Replies, counted by their status.
use Rattle.std.specs.Prelude.{◌≡◌, ℕ, ◌+◌, ◌<◌, List, []}
use Rattle.std.specs.Prelude.{codes}
use Rattle.asp_messages.specs.declared.reply.Reply.{Reply}
use Rattle.asp_messages.specs.declared.reply.Reply.TheVariants as replies
use Rattle.session_machine.specs.declared.entry.Entry.{Entry}
use Rattle.load_generator.specs.declared.status_counts.Counts.{Counts}
use Rattle.load_generator.specs.LoadRun.{count_of, ◌and◌}

-- The counts are those of the entries' replies.
pub record CountsAre (counts : Counts) (list : List Entry) : Type 0 where
  pub ok : counts.ok ≡ count_of 200 list
  pub bad : counts.bad ≡ count_of 400 list
  pub missing : counts.missing ≡ count_of 404 list
  pub locked : counts.locked ≡ count_of 423 list
  pub faults : counts.faults ≡ count_of 500 list
  pub no_memory : counts.no_memory ≡ count_of 503 list
  pub cookies_out : counts.cookies_out ≡ count_of 507 list

-- Each count is below n.
pub record AreBelow (n : ℕ) (counts : Counts) : Type 0 where
  pub ok : counts.ok < n
  pub bad : counts.bad < n
  pub missing : counts.missing < n
  pub locked : counts.locked < n
  pub faults : counts.faults < n
  pub no_memory : counts.no_memory < n
  pub cookies_out : counts.cookies_out < n

-- the counts with one reply more
abbrev pub counted : Counts → Reply → Counts
counted counts (replies.Found body minutes cookie first) = record counts { ok = counts.ok + 1 }
counted counts replies.Done = record counts { ok = counts.ok + 1 }
counted counts (replies.Locked cookie age since) = record counts { locked = counts.locked + 1 }
counted counts replies.Missing = record counts { missing = counts.missing + 1 }
counted counts replies.Bad = record counts { bad = counts.bad + 1 }
counted counts replies.KeeperFault = record counts { faults = counts.faults + 1 }
counted counts replies.NoMemory = record counts { no_memory = counts.no_memory + 1 }
counted counts replies.CookiesOut = record counts { cookies_out = counts.cookies_out + 1 }
counted counts replies.PlacesOut = counts

-- the text of a load with these counts
abbrev pub counts_text : ℕ → Counts → ℕ → List ℕ
counts_text requests counts removed =
    [] and (codes "requests", requests) and (codes "200", counts.ok) and (codes "400", counts.bad)
    and (codes "404", counts.missing) and (codes "423", counts.locked) and
    (codes "500", counts.faults)
    and (codes "503", counts.no_memory) and (codes "507", counts.cookies_out) and
    (codes "removed", removed)
