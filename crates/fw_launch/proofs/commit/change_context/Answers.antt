use Rattle.fw_launch.proofs.PassedLaws.{counter_passed, type_passed}
use Rattle.fw_launch.proofs.commit.change_context.Goals as goal

pub measure-requires : goal.measure-requires
measure-requires c = type_passed _ _ _ _ _ _ _ c.in-LaunchUpdate.is c.requires.tested

pub count-requires : goal.count-requires
count-requires c = counter_passed _ _ c.in-SwapOut.is c.requires.tested
