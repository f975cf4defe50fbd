pub use Rattle.xm_mistakes.specs.Mistakes
