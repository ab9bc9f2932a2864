-- What the calls promise. A program that knows no rules but those of its order cites them here,
-- since pb_commands hands on `Rules` too.
pub use Rattle.pb_commands.specs.Answered.{CollectTheorem}
pub use Rattle.pb_commands.specs.CheckShown.{ChecksOrEnds}
pub use Rattle.pb_commands.specs.ContinueHeadline.{ContinueTheorem}
pub use Rattle.pb_commands.specs.Runs.{Change, EndStates, IsSame, JournalStates, between}
pub use Rattle.pb_commands.specs.Runs.{journal_states, states}
pub use Rattle.pb_commands.specs.ExportRun.{ExportRun}
pub use Rattle.pb_commands.specs.Into.{Into, KeepsBook, KeepsBoth}
pub use Rattle.pb_commands.specs.JournalHeadline.{JournalTheorem, LosesNoneLater}
pub use Rattle.pb_commands.specs.Judged.{StopsOrEnds}
pub use Rattle.pb_commands.specs.ProbeShown.{ProbesSources}
pub use Rattle.pb_commands.specs.Tree.{GrowsTree}
pub use Rattle.pb_commands.specs.Journal.{PicksAll, PicksUntil}
pub use Rattle.pb_commands.specs.declared.stop.Stop.{Stop}
