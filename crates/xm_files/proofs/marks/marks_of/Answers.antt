use Rattle.std.proofs.Common.{ℕ, bit_or}
use Rattle.std.proofs.lemmas.Simd.{zip2_of_maps, zip2_splat}
use Rattle.xm_files.proofs.Marked.{hit, lane-bits}
use Rattle.xm_files.proofs.marks.marks_of.Goals as goal

pub returns : goal.returns
returns c =
    let block = c.args.block in
    let is = λ (byte : ℕ). zip2_splat hit block 64 byte c.fits-block.0 in
    lane-bits block _ c.fits-block.0 (zip2_of_maps bit_or _ _ block (zip2_of_maps bit_or _ _ block (is 10) (is 44)) (zip2_of_maps bit_or _ _ block (is 13) (is 34)))
