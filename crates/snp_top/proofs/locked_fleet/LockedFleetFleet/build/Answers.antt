use Rattle.std.proofs.Common.{arith}
use Rattle.snp_model.proofs.SoundLaws.{valid_is_sound}
use Rattle.snp_top.proofs.locked_fleet.LockedFleetFleet.build.Goals as goal

pub make_passes-requires : goal.make_passes-requires
make_passes-requires c =
    let most = (valid_is_sound c.args.scenario.now c.requires.valid).actors_most in
    let count = c.len.ensures in
    omega arith
