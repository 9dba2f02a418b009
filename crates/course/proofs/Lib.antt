-- What more than one function's proof cites, and the laws of a course.
pub mod Walking
pub mod Most
pub mod Along
pub mod Accepted
pub mod Paths
pub mod Demand
pub mod FiniteCenters
pub mod FiniteFit
pub mod FinitePoints
pub mod FiniteCourse
pub mod Start
pub mod Some
