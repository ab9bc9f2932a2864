use Rattle.std.proofs.Common.{◌∙◌, ◌++◌, append-nil, refl, rules, sym}
use Rattle.pb_files.proofs.EndLemmas.{still_lasts}
use Rattle.pb_files.proofs.file_end.FileEndSink.put.Goals as goal

-- of the bytes none was put
pub returns-in-Err : goal.returns-in-Err
returns-in-Err g c = record {
  all = tt;
  front = (0, c.in-Err.ensures.none ∙ sym (append-nil (c.args.self.now.file.handed ++ c.args.self.now.waiting.items)));
  failed = refl;
  stays_failed = search rules;
  lasts = still_lasts _ _ _ (c.in-Err.ensures.grows c.args.self.now.within) c.args.self.now.within;
  flushed = refl;
  flushes = refl;
}
