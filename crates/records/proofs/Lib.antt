pub mod Facts
pub mod PoseWhole
pub mod CurvesWhole
pub mod Table
